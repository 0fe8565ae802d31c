use Rattle.std.proofs.Common.{ap}
use Rattle.ned_types.specs.Flat.{submodule_named}
use Rattle.inside_run.specs.Weights.{chosen_weight}
use Rattle.inside_run.proofs.Moves.{costs_as, costs_more, most_of}
use Rattle.inside_run.proofs.asker.type_around.Goals as goal

pub returns-clause-costs : goal.returns-clause-costs
returns-clause-costs g c =
    let s = g.S.ModuleSource.setting c.args.scene.now in
    let found = c.submodule_in-submodule.ensures in
    costs_more s c.type_in.result _ _
    (most_of (λ u. chosen_weight s c.args.site.now (submodule_named c.args.name.now u.submodules)) s.types c.in_ok-number.number c.in_ok-number.declared.now c.in_ok-number.ensures.there)
    (costs_as s c.type_in.result _ _ (ap (chosen_weight s c.args.site.now) found) c.type_in.ensures.costs)
