use Rattle.std.proofs.Common.{Err, ap, sym, ◌∙◌}
use Rattle.param_following.specs.Asking.{Done}
use Rattle.inside_keys.specs.Values as values
use Rattle.inside_run.proofs.types.named_type.Goals as goal

pub returns-in-Some-clause-costs : goal.returns-in-Some-clause-costs
returns-in-Some-clause-costs g c = c.kept_type.ensures.costs (g.S.ModuleSource.setting c.args.scene.now)

pub returns-in-None-clause-moves : goal.returns-in-None-clause-moves
returns-in-None-clause-moves g c =
    ap (values.type_found (g.S.ModuleSource.setting c.args.scene.now) c.args.parametric.now c.args.body.now c.args.name.now) (sym c.in_ok-number.ensures.same ∙ c.in-None.is)
    ∙ ap (λ f. Done (Err f)) (sym (c.no_type.ensures (g.S.ModuleSource.setting c.args.scene.now)))
