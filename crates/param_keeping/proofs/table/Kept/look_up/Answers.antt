use Rattle.std.proofs.Common.{sym, ap, ◌∙◌, Some}
use Rattle.std.specs.Map.{lookup}
use Rattle.std.specs.Prelude.{slice_get}
use Rattle.param_keeping.specs.Stores.{Keeping}
use Rattle.param_keeping.proofs.Finding.{among_none, key_same, known_there, not_known}
use Rattle.param_keeping.proofs.table.Kept.look_up.Goals as goal

pub returns-in_err-place-clause-none : goal.returns-in_err-place-clause-none
returns-in_err-place-clause-none g c = λ _.
    let eq = g.K.PartialEq.eq in
    among_none eq c.args.self.now.entries c.args.flags.now c.args.key.now
    (ap (λ (k : Keeping _ _). lookup (eq c.args.key.now) k.entries) (sym c.self.view_is) ∙ sym c.in_err-place.ensures.value)

pub returns-then-is_live-clause-there : goal.returns-then-is_live-clause-there
returns-then-is_live-clause-there g c =
    let eq = g.K.PartialEq.eq in
    let m = c.self.inside.entries in
    let e = c.requires.exact c.args.key.now c.in_ok-place.field-0-1.now (key_same eq m.entries c.args.key.now c.in_ok-place.field-0-1.now (sym c.in_ok-place.ensures.key)) in
    ap (λ (k : Keeping _ _). slice_get k.entries c.in_ok-place.place) (sym c.self.view_is)
    ∙ c.in_ok-place.ensures.entry ∙ ap (λ y. Some (y, c.in_ok-place.value.now)) (sym e)

pub returns-then-is_live-clause-value : goal.returns-then-is_live-clause-value
returns-then-is_live-clause-value g c =
    let eq = g.K.PartialEq.eq in
    let m = c.self.inside.entries in
    let e = c.requires.exact c.args.key.now c.in_ok-place.field-0-1.now (key_same eq m.entries c.args.key.now c.in_ok-place.field-0-1.now (sym c.in_ok-place.ensures.key)) in
    known_there eq c.requires.exact g.met.K.Eq.laws.refl c.args.self.now.entries c.args.flags.now c.requires.apart c.args.key.now c.in_ok-place.value.now c.in_ok-place.place
    (ap (λ (k : Keeping _ _). slice_get k.entries c.in_ok-place.place) (sym c.self.view_is)
    ∙ c.in_ok-place.ensures.entry ∙ ap (λ y. Some (y, c.in_ok-place.value.now)) (sym e))
    (sym c.is_live.ensures ∙ c.if-is_live.true)

pub returns-clause-none : goal.returns-clause-none
returns-clause-none g c = λ _.
    let eq = g.K.PartialEq.eq in
    let m = c.self.inside.entries in
    let e = c.requires.exact c.args.key.now c.in_ok-place.field-0-1.now (key_same eq m.entries c.args.key.now c.in_ok-place.field-0-1.now (sym c.in_ok-place.ensures.key)) in
    not_known eq c.requires.exact g.met.K.Eq.laws.refl c.args.self.now.entries c.args.flags.now c.requires.apart c.args.key.now c.in_ok-place.value.now c.in_ok-place.place
    (ap (λ (k : Keeping _ _). slice_get k.entries c.in_ok-place.place) (sym c.self.view_is)
    ∙ c.in_ok-place.ensures.entry ∙ ap (λ y. Some (y, c.in_ok-place.value.now)) (sym e))
    (sym c.is_live.ensures ∙ c.if-is_live.false)
