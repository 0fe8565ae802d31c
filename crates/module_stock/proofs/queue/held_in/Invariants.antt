use Rattle.std.proofs.Common.{◌≡◌, ◌++◌, length}
use Rattle.module_stock.specs.Held.{AllFit, bytes_of}
use Rattle.module_stock.proofs.queue.held_in.Given as goal

abbrev pub invariant-loop-held : goal.invariant-loop-held
invariant-loop-held l = record {
  made : bytes_of l.held.items ++ l.left ≡ l.state;
  fit : AllFit l.held.items;
}

abbrev pub decreases-loop-held : goal.decreases-loop-held
decreases-loop-held l = length l.left
