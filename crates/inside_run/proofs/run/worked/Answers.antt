use Rattle.inside_run.proofs.Loads.{task_within}
use Rattle.inside_run.proofs.run.worked.Goals as goal

pub returns-in-Some-clause-within : goal.returns-in-Some-clause-within
returns-in-Some-clause-within c =
    let g = c.args.ground.now in
    c.led.ensures.within g c.step.new.tasks _
    (task_within g c.args.tasks.now c.pop.new.self c.step.new.tasks c.in-Some.task c.args.state c.step.result c.in-Some.ensures c.step.ensures.spends)

pub returns-in-None-clause-within : goal.returns-in-None-clause-within
returns-in-None-clause-within c = c.stopped.ensures.within c.args.ground.now c.pop.new.self _ tt
