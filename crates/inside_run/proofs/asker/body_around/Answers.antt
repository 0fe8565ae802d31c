use Rattle.std.proofs.Common.{ap, ◌∙◌}
use Rattle.ned_types.specs.Flat.{submodule_named}
use Rattle.inside_keys.specs.Values.{body_by}
use Rattle.inside_run.specs.Weights.{body_weight}
use Rattle.inside_run.proofs.Moves.{costs_as, costs_more, most_of}
use Rattle.inside_run.proofs.asker.body_around.Goals as goal

pub returns-clause-costs : goal.returns-clause-costs
returns-clause-costs g c =
    let s = g.S.ModuleSource.setting c.args.scene.now in
    let found = c.submodule_in-submodule.ensures in
    costs_more s c.with_body.result _ _
    (most_of (λ u. body_weight s c.args.site.now c.args.what.now c.args.declared.now (body_by (submodule_named c.args.name.now u.submodules))) s.types c.in_ok-number.number c.in_ok-number.around.now c.in_ok-number.ensures.there)
    (costs_as s c.with_body.result _ _ (ap (body_weight s c.args.site.now c.args.what.now c.args.declared.now) (c.body_in.ensures ∙ ap body_by found)) c.with_body.ensures.costs)
