use Rattle.std.proofs.Common.{ap, sym, ◌∙◌}
use Rattle.inside_run.specs.Posing.{maybe_posed}
use Rattle.inside_run.specs.Weights.{posed_weight}
use Rattle.inside_run.proofs.Moves.{costs_as}
use Rattle.inside_run.proofs.keys.declared_size.Goals as goal

pub returns-in-Some-clause-costs : goal.returns-in-Some-clause-costs
returns-in-Some-clause-costs g c =
    let s = g.S.ModuleSource.setting c.args.scene.now in
    costs_as s c.begin_posed.result _ _ (ap posed_weight (sym (ap maybe_posed c.in-Some.is) ∙ c.in_ok-posed.ensures)) (c.begin_posed.ensures.costs s)
