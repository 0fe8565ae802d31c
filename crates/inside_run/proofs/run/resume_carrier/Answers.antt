use Rattle.inside_run.proofs.Loads.{resumed_within, stopped_within}
use Rattle.inside_run.proofs.run.resume_carrier.Goals.{in-Carrier, in-Key, in-Expression}
use Rattle.inside_run.proofs.run.resume_carrier.Goals as goal

pub returns-clause-within : goal.returns-clause-within
returns-clause-within c =
    let g = c.args.ground.now in
    elim c.match-doing.branch [
      | in-Carrier w ↦ resumed_within g c.args.tasks.now w.carried.new.tasks c.match-doing.tasks c.args.doing w.in-Carrier.carry c.args.state w.carried.result c.match-doing.result w.in-Carrier.is w.result-is w.tasks-is w.carried.ensures.spends
      | in-Key w ↦ stopped_within g c.match-doing.tasks _ c.match-doing.result _ w.result-is
      | in-Expression w ↦ stopped_within g c.match-doing.tasks _ c.match-doing.result _ w.result-is
    ]
