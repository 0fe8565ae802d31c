use Rattle.inside_run.specs.Weights.{typed_weight}
use Rattle.inside_run.proofs.Moves.{costs_more, most_of}
use Rattle.inside_run.proofs.asker.own_type.Goals as goal

pub returns-clause-costs : goal.returns-clause-costs
returns-clause-costs g c =
    let s = g.S.ModuleSource.setting c.args.scene.now in
    costs_more s c.asked_in.result _ _ (most_of (typed_weight s c.args.site c.args.what) s.types c.in_ok-number.number c.in_ok-number.declared.now c.in_ok-number.ensures.there) c.asked_in.ensures.costs
