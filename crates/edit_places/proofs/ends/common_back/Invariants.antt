use Rattle.std.proofs.Common.{◌≡◌, ◌≤◌, ◌+◌, ◌-◌, length, drop}
use Rattle.edit_places.proofs.ends.common_back.Given as goal

abbrev pub invariant-entries : goal.invariant-entries
invariant-entries l = (l.front + l.back ≤ length l.one) × (l.front + l.back ≤ length l.other)
    × (drop (length l.one - l.back) l.one ≡ drop (length l.other - l.back) l.other)

abbrev pub decreases-entries : goal.decreases-entries
decreases-entries l = length l.one - l.back
