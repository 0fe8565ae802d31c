use Rattle.std.proofs.Common.{◌≡◌, ◌++◌, drop}
use Rattle.module_stock.specs.Held.{bytes_of}
use Rattle.module_stock.proofs.queue.bytes_of.Given as goal

abbrev pub invariant-loop-i : goal.invariant-loop-i
invariant-loop-i l = l.bytes.items ++ bytes_of (drop l.i l.held.items) ≡ bytes_of l.held.items
