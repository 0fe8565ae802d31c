use Rattle.std.proofs.Common.{◌≡◌, ◌∙◌, List, Bool, ap, subst, sym, Some}
use Rattle.inside_keys.specs.Keys.{key}
use Rattle.inside_keys.specs.declared.key.What.TheVariants as what
use Rattle.model_keeping.specs.Held.{AreValuesOf}
use Rattle.model_settings.specs.Standings.{setting_of}
use Rattle.param_keeping.specs.Stores.{store_of}
use Rattle.param_keeping.proofs.Places.{with_key}
use Rattle.model_keeping.proofs.Standing.{read_more}
use Rattle.model_keeping.proofs.again.is_read_still.Goals as goal

pub returns : goal.returns
returns c =
    let kept = c.args.store.now.kept in
    let own = key c.in-Some.key.now.site what.Inside in
    let w = with_key kept.entries c.args.place own (sym c.in-Some.ensures ∙ ap (λ w. Some (key c.in-Some.key.now.site w)) (c.is_inside.ensures c.if-not-is_inside.false)) in
    subst (λ (flags : List Bool). AreValuesOf (setting_of c.args.after.now) (store_of kept flags)) (sym c.set.ensures)
    (read_more (setting_of c.args.after.now) kept c.args.read.now c.args.place own w.0 c.requires.found.1.closed_are.stored.shaped.apart c.requires.read w.1 (c.is_inside_still.ensures c.if-not-is_inside_still.false w.0 w.1))
