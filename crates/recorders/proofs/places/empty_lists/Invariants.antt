use Rattle.std.proofs.Common.{◌≡◌, ℕ, [], length}
use Rattle.recorders.specs.Places.{places_at}
use Rattle.recorders.proofs.places.empty_lists.Given as goal

abbrev pub invariant-loop : goal.invariant-loop
invariant-loop l = record {
  number : length l.lists.items ≡ l.counter;
  empty : (q : ℕ) → places_at l.lists.items q ≡ [];
}
