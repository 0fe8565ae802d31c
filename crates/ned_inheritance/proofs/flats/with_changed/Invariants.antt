use Rattle.std.proofs.Common.{◌≡◌, ◌≤◌, length}
use Rattle.ned_inheritance.specs.Flats.{with_changed}
use Rattle.ned_inheritance.proofs.flats.with_changed.Given as goal

abbrev pub invariant-loop-last : goal.invariant-loop-last
invariant-loop-last l = (length l.changed ≤ length l.types) × (with_changed l.types l.changed ≡ with_changed l.fn.types l.fn.changed)

abbrev pub decreases-loop-last : goal.decreases-loop-last
decreases-loop-last l = length l.changed
