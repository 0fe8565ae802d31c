use Rattle.std.proofs.Common.{◌≡◌, ap, rules}
use Rattle.inside_keys.specs.Given.{vector_size_posed}
use Rattle.inside_run.specs.Posing.{maybe_posed}
use Rattle.inside_run.specs.Weights.{posed_weight}
use Rattle.inside_run.proofs.Moves.{costs_as}
use Rattle.inside_run.proofs.keys.begin_vector_size.Goals as goal

pub returns-clause-costs : goal.returns-clause-costs
returns-clause-costs g c =
    let s = g.S.ModuleSource.setting c.args.scene.now in
    let same : maybe_posed c.in_ok-posed.posed ≡ vector_size_posed s c.args.site.now c.args.declared.now c.args.name.now = search rules in
    costs_as s c.begin_posed.result _ _ (ap posed_weight same) (c.begin_posed.ensures.costs s)
