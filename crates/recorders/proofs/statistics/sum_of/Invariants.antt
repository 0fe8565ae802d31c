use Rattle.std.proofs.Common.{◌≡◌, ◌≤◌, ◌*◌, ◌^◌, pos, ◌+ℤ◌, drop}
use Rattle.std.specs.List.{fold}
use Rattle.std.specs.Prelude.{unsigned_abs}
use Rattle.recorders.proofs.statistics.sum_of.Given as goal

abbrev pub invariant-loop-value : goal.invariant-loop-value
invariant-loop-value l = record {
  small : unsigned_abs l.sum ≤ l.value-index * 2 ^ 63;
  left : fold (λ s x. s +ℤ x) l.sum (drop l.value-index l.values) ≡ fold (λ s x. s +ℤ x) (pos 0) l.values;
}
