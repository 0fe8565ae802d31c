use Rattle.std.proofs.Common.{ap, subst, sym, ◌∙◌, arith, length}
use Rattle.module_tree.specs.Boxes.{AreRising, seats_from}
use Rattle.module_tree.proofs.Seats.{one_out, none_left_out, rise}
use Rattle.module_tree.proofs.Tree.take.Goals as goal

pub returns-then-is_some-clause-rising : goal.returns-then-is_some-clause-rising
returns-then-is_some-clause-rising g c = subst (λ h. AreRising 0 h.room h.seats) c.self.view_is (rise c.self.inside.slots.items)

pub returns-else-is_some-clause-rising : goal.returns-else-is_some-clause-rising
returns-else-is_some-clause-rising g c = subst (λ h. AreRising 0 h.room h.seats) c.self.view_is (rise c.self.inside.slots.items)

pub invariant_of-self : goal.invariant_of-self
invariant_of-self g c =
    let out = one_out c.args.id c.take_at-taken.result (seats_from 0 c.self.inside.slots.items) (seats_from 0 c.take_at-taken.new.slots.items) c.take_at-taken.ensures.value c.take_at-taken.ensures.rest (sym c.is_some.ensures ∙ c.if-is_some.true) in
    record { counted = omega (arith, out, c.self.invariant.counted); few = omega (arith, c.take_at-taken.ensures.room, c.self.invariant.few) }

pub invariant_of-self-else-is_some : goal.invariant_of-self-else-is_some
invariant_of-self-else-is_some g c =
    let out = none_left_out c.args.id c.take_at-taken.result (seats_from 0 c.self.inside.slots.items) (seats_from 0 c.take_at-taken.new.slots.items) c.take_at-taken.ensures.value c.take_at-taken.ensures.rest (sym c.is_some.ensures ∙ c.if-is_some.false) in
    record { counted = c.self.invariant.counted ∙ ap length (sym out); few = omega (arith, c.take_at-taken.ensures.room, c.self.invariant.few) }
