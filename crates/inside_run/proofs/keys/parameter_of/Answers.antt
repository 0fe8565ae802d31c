use Rattle.std.proofs.Common.{ap}
use Rattle.inside_run.specs.Weights.{posed_weight}
use Rattle.inside_run.proofs.Moves.{costs_as}
use Rattle.inside_run.proofs.keys.parameter_of.Goals as goal

pub returns-clause-costs : goal.returns-clause-costs
returns-clause-costs g c =
    let s = g.S.ModuleSource.setting c.args.scene.now in
    costs_as s c.begin_posed.result _ _ (ap posed_weight c.in_ok-posed.ensures) (c.begin_posed.ensures.costs s)
