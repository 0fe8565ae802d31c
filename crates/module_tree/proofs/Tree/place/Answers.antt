use Rattle.std.proofs.Common.{◌≡◌, false, Result, Ok, Err, OnOk, ap, sym, ◌∙◌, arith, length}
use Rattle.std.specs.Result.{is_err}
use Rattle.module_tree.specs.Boxes.{box_of, with_box}
use Rattle.module_tree.proofs.Seats.{filled, empty_slot, counted_in, room_for_one}
use Rattle.module_tree.proofs.Tree.place.Goals as goal

-- what holds where there is no error
unless_err : {A E : Type 0} (r : Result A E) (P : Type 0) → is_err r ≡ false → OnOk r P → P
unless_err (Ok x) P e h = h
unless_err (Err x) P e h = cc

pub overflow_add-self : goal.overflow_add-self
overflow_add-self g c = omega (arith, room_for_one c.self.inside.count c.self.inside.slots.items c.self.invariant)

pub invariant_of-self-2 : goal.invariant_of-self-2
invariant_of-self-2 g c =
    let same = c.widen.ensures.same in
    let there = unless_err c.widen.result _ (sym c.is_err.ensures.value ∙ c.if-is_err.false) c.widen.ensures.room in
    let free = ap (box_of c.args.id) same ∙ ap (λ h. box_of c.args.id h.seats) c.self.view_is ∙ c.requires in
    counted_in c.args.id c.self.inside.count c.args.value c.widen.new.slots.items there free (record { counted = c.self.invariant.counted ∙ ap length (sym same); few = c.widen.ensures.few })

pub returns-clause-ok : goal.returns-clause-ok
returns-clause-ok g c =
    let same = c.widen.ensures.same in
    let there = unless_err c.widen.result _ (sym c.is_err.ensures.value ∙ c.if-is_err.false) c.widen.ensures.room in
    let free = ap (box_of c.args.id) same ∙ ap (λ h. box_of c.args.id h.seats) c.self.view_is ∙ c.requires in
    filled c.args.id c.args.value c.widen.new.slots.items (empty_slot c.args.id c.widen.new.slots.items there free) ∙ ap (with_box c.args.id c.args.value) (same ∙ ap (λ h. h.seats) c.self.view_is)
