use Rattle.std.proofs.Common.{ap, sym, subst}
use Rattle.inside_walk.specs.declared.task.Doing.TheVariants as doing
use Rattle.inside_walk.specs.declared.task.Halt.TheVariants as halt
use Rattle.inside_walk.specs.declared.task.Next.{Next}
use Rattle.inside_walk.specs.Tasks.{next_of}
use Rattle.inside_run.specs.Runs.{AsksWithin, load}
use Rattle.inside_run.proofs.Loads.{carries_within, waits_within}
use Rattle.inside_run.proofs.run.moved.Goals as goal

pub returns-in-Ask-clause-comes : goal.returns-in-Ask-clause-comes
returns-in-Ask-clause-comes c = c.stopped.ensures.comes c.args.ground.now c.args.tasks.now _ (sym (ap (next_of c.args.ground.now c.args.tasks.now) c.in-Ask.is))

pub returns-in-Ask-clause-within : goal.returns-in-Ask-clause-within
returns-in-Ask-clause-within c =
    let g = c.args.ground.now in
    let ts = c.args.tasks.now in
    c.stopped.ensures.within g ts _
    (subst (λ (n : Next). AsksWithin g (load g n ts) ts (halt.Asks c.in-Ask.key (doing.Key c.in-Ask.wait) c.in-Ask.state)) (sym c.in-Ask.is) (waits_within g ts c.in-Ask.key c.in-Ask.wait c.in-Ask.state))

pub returns-in-Carry-clause-comes : goal.returns-in-Carry-clause-comes
returns-in-Carry-clause-comes c = c.stopped-in-Carry.ensures.comes c.args.ground.now c.args.tasks.now _ (sym (ap (next_of c.args.ground.now c.args.tasks.now) c.in-Carry.is))

pub returns-in-Carry-clause-within : goal.returns-in-Carry-clause-within
returns-in-Carry-clause-within c =
    let g = c.args.ground.now in
    let ts = c.args.tasks.now in
    c.stopped-in-Carry.ensures.within g ts _
    (subst (λ (n : Next). AsksWithin g (load g n ts) ts (halt.Asks c.in-Carry.key (doing.Carrier c.in-Carry.carry) c.in-Carry.state)) (sym c.in-Carry.is) (carries_within g ts c.in-Carry.key c.in-Carry.carry c.in-Carry.state))
