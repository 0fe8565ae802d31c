use Rattle.std.proofs.Common.{◌-◌, None, Some, is_some, refl, sym, ap, ◌∙◌, arith, length}
use Rattle.module_tree.proofs.Seats.{take_short, last_none, last_some, none_at_all}
use Rattle.module_tree.proofs.last_at.Goals as goal

pub loop-rest-init : goal.loop-rest-init
loop-rest-init g c = record { same = refl; few = c.requires }

pub overflow_cast-result : goal.overflow_cast-result
overflow_cast-result g c = omega (arith, take_short (length c.loop-rest.rest.now - 1) c.loop-rest.rest.now (omega arith), c.loop-rest.invariant.few, c.in-len1-up.len_at_least)

pub returns-then-is_some : goal.returns-then-is_some
returns-then-is_some g c =
    ap Some (omega (arith, take_short (length c.loop-rest.rest.now - 1) c.loop-rest.rest.now (omega arith)))
    ∙ last_some 0 None c.loop-rest.rest.now (length c.loop-rest.rest.now - 1) _ (omega (arith, c.in-len1-up.len_at_least)) (sym (c.if-is_some.ensures ∙ ap is_some c.slot-item.is))
    ∙ c.loop-rest.invariant.same

pub loop-rest-smaller : goal.loop-rest-smaller
loop-rest-smaller g c = omega (arith, take_short (length c.loop-rest.rest.now - 1) c.loop-rest.rest.now (omega arith), c.in-len1-up.len_at_least)

pub loop-rest-preserved : goal.loop-rest-preserved
loop-rest-preserved g c = record {
  same = last_none 0 None c.loop-rest.rest.now (length c.loop-rest.rest.now - 1) _ (omega (arith, c.in-len1-up.len_at_least)) (ap is_some (sym c.slot-item.is) ∙ sym c.is_some.ensures ∙ c.if-is_some.false) ∙ c.loop-rest.invariant.same;
  few = omega (arith, take_short (length c.loop-rest.rest.now - 1) c.loop-rest.rest.now (omega arith), c.loop-rest.invariant.few);
}

pub returns : goal.returns
returns g c = none_at_all c.loop-rest.rest.now c.in_default.len_below ∙ c.loop-rest.invariant.same
