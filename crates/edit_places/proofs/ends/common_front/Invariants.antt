use Rattle.std.proofs.Common.{◌≡◌, ◌≤◌, ◌-◌, length, take}
use Rattle.edit_places.proofs.ends.common_front.Given as goal

abbrev pub invariant-entries : goal.invariant-entries
invariant-entries l = (l.front ≤ length l.one) × (l.front ≤ length l.other) × (take l.front l.one ≡ take l.front l.other)

abbrev pub decreases-entries : goal.decreases-entries
decreases-entries l = length l.one - l.front
