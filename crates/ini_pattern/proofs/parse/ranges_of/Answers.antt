use Rattle.std.proofs.Common.{sym, subst, List, rules}
use Rattle.std.specs.Str.{chars}
use Rattle.ini_pattern.specs.declared.piece.CharRange.{CharRange}
use Rattle.ini_pattern.proofs.ParseLemmas.{RangesSoFar, ranges_stop, ranges_bad, ranges_next}
use Rattle.ini_pattern.proofs.parse.ranges_of.Goals as goal

pub returns-in-Some : goal.returns-in-Some
returns-in-Some c = ranges_stop _ _ _ _ c.loop-behind.invariant.1 c.in-Some.ensures

pub returns-in_default-range_item : goal.returns-in_default-range_item
returns-in_default-range_item c =
    ranges_bad _ _ _ c.loop-behind.invariant.1 c.in_default.ensures (sym c.in_default-range_item.ensures)

pub loop-behind-preserved : goal.loop-behind-preserved
loop-behind-preserved c =
    (search rules, subst (λ (l : List CharRange). RangesSoFar l (chars c.args.text.now) (chars c.in-Some-range_item.after.now)) (sym c.in_ok-push.ensures.ok) (ranges_next _ _ _ _ _ c.loop-behind.invariant.1 c.in_default.ensures (sym c.in-Some-range_item.ensures)))
