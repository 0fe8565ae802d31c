use Rattle.std.proofs.Common.{ap, ◌∙◌, arith}
use Rattle.inside_keys.specs.Values.{planned_body}
use Rattle.inside_run.specs.Weights.{body_weight}
use Rattle.inside_run.proofs.Moves.{costs_as, costs_more}
use Rattle.inside_run.proofs.keys.begin_with_body.Goals as goal

pub returns-clause-costs : goal.returns-clause-costs
returns-clause-costs g c =
    let s = g.S.ModuleSource.setting c.args.scene.now in
    costs_more s c.with_body.result _ _ (omega arith)
    (costs_as s c.with_body.result _ _ (ap (body_weight s c.args.site c.args.what c.args.declared.now) (c.planned_body-body.ensures ∙ ap planned_body c.planned.ensures)) c.with_body.ensures.costs)
