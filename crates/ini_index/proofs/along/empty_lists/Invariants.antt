use Rattle.std.proofs.Common.{◌≡◌, ℕ, [], length}
use Rattle.ini_index.specs.Entries.{numbers_at}
use Rattle.ini_index.proofs.along.empty_lists.Given as goal

abbrev pub invariant-loop : goal.invariant-loop
invariant-loop l = record {
  number : length l.lists.items ≡ l.counter;
  empty : (k : ℕ) → numbers_at l.lists.items k ≡ [];
}
