use Rattle.std.proofs.Common.{◌≡◌, ◌++◌, ◌+◌, ◌<◌, ◌≤◌, true, false, length}
use Rattle.ned_inheritance.specs.Inheritance.{types_in}
use Rattle.ned_inheritance.specs.Order.{AreStuck, IsUnderWay}
use Rattle.ned_inheritance.proofs.order.take_ready.Given as goal

abbrev pub invariant-loop-rest : goal.invariant-loop-rest
invariant-loop-rest l = record {
  way : IsUnderWay l.named l.order (types_in l.waiting.items ++ types_in l.rest);
  stuck : l.taken ≡ false → AreStuck l.named l.order (types_in l.waiting.items);
  size : length l.waiting.items + length l.rest ≤ length l.types;
  fewer : l.taken ≡ true → length l.waiting.items + length l.rest < length l.types;
}

abbrev pub decreases-loop-rest : goal.decreases-loop-rest
decreases-loop-rest l = length l.rest
