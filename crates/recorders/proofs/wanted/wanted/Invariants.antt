use Rattle.std.proofs.Common.{◌≡◌, ℕ, ◌<◌, length}
use Rattle.recorders.specs.Wanted.{is_wanted, wants}
use Rattle.recorders.proofs.wanted.wanted.Given as goal

abbrev pub invariant-loop-id : goal.invariant-loop-id
invariant-loop-id l = record {
  number : length l.wanted.items ≡ l.id;
  meant : (q : ℕ) → q < l.id → is_wanted l.wanted.items q ≡ wants l.output l.model l.records q;
}
