use Rattle.std.proofs.Common.{◌-◌, ap, sym, ◌∙◌, arith}
use Rattle.module_tree.proofs.Taking.{some_below, taken_in, none_taken, one_free}
use Rattle.module_tree.proofs.Tree.take_below.Goals as goal

pub overflow_sub-left : goal.overflow_sub-left
overflow_sub-left g c = some_below c.loop-left.left 0 c.loop-left.others.seats c.loop-left.invariant.rising (omega arith)

pub put_back-requires-clause-there : goal.put_back-requires-clause-there
put_back-requires-clause-there g c =
    let some = some_below c.loop-left.left 0 c.loop-left.others.seats c.loop-left.invariant.rising (omega arith) in
    omega (arith, some, c.loop-left.invariant.few, c.loop-left.invariant.room)

pub put_back-requires-clause-free : goal.put_back-requires-clause-free
put_back-requires-clause-free g c = one_free (c.loop-left.left - 1) c.in-Some.value c.loop-left.others.seats c.loop-left.self.seats c.loop-left.invariant.free (sym c.take.ensures.value ∙ c.in-Some.is)

pub loop-left-smaller-in-Some : goal.loop-left-smaller-in-Some
loop-left-smaller-in-Some g c =
    let some = some_below c.loop-left.left 0 c.loop-left.others.seats c.loop-left.invariant.rising (omega arith) in
    omega (arith, some)

pub loop-left-preserved-in-Some : goal.loop-left-preserved-in-Some
loop-left-preserved-in-Some g c =
    let some = some_below c.loop-left.left 0 c.loop-left.others.seats c.loop-left.invariant.rising (omega arith) in
    let taken =
    taken_in (c.loop-left.left - 1) c.loop-left.left c.in-Some.value c.loop-left.others.seats c.loop-left.self.seats c.take.new.self.seats c.put_back.new.self.seats _ (omega (arith, some)) c.loop-left.invariant.rising c.loop-left.invariant.free
    (sym c.take.ensures.value ∙ c.in-Some.is) (ap (λ h. h.seats) c.take.ensures.rest) (ap (λ h. h.seats) c.put_back.ensures) c.loop-left.invariant.whole
    in
    record {
      few = omega (arith, c.loop-left.invariant.few);
      room = omega (arith, c.loop-left.invariant.room, ap (λ h. h.room) c.put_back.ensures);
      rising = taken.rising;
      free = taken.free;
      whole = taken.whole_is;
    }

pub loop-left-smaller : goal.loop-left-smaller
loop-left-smaller g c =
    let some = some_below c.loop-left.left 0 c.loop-left.others.seats c.loop-left.invariant.rising (omega arith) in
    omega (arith, some)

pub loop-left-preserved : goal.loop-left-preserved
loop-left-preserved g c =
    let some = some_below c.loop-left.left 0 c.loop-left.others.seats c.loop-left.invariant.rising (omega arith) in
    let taken =
    none_taken (c.loop-left.left - 1) c.loop-left.left c.loop-left.others.seats c.loop-left.self.seats c.take.new.self.seats _ (omega (arith, some)) c.loop-left.invariant.rising c.loop-left.invariant.free
    (sym c.take.ensures.value ∙ c.in_default.is) (ap (λ h. h.seats) c.take.ensures.rest) c.loop-left.invariant.whole
    in
    record {
      few = omega (arith, c.loop-left.invariant.few);
      room = c.loop-left.invariant.room;
      rising = taken.rising;
      free = taken.free;
      whole = taken.whole_is;
    }
