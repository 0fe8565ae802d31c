-- Parts of texts that were taken, and writes that are no failure.
use Rattle.std.proofs.Common.{◌≡◌, ◌≢◌, ℕ, ◌+◌, ◌-◌, ◌<◌, List, ◌++◌, length, take, drop, refl, sym, ap, ◌∙◌, arith, append_assoc}
use Rattle.std.proofs.Math.Seq.{take-add}
use Rattle.std.proofs.lemmas.Bool.{ne_eqb}
use Rattle.std.proofs.lemmas.List.{take_rest}
use Rattle.sim_values.specs.Counts.{count_behind}

-- a part more was taken
pub sent_more : (o m n p : List ℕ) (s k : ℕ) → m ≡ o ++ take s p → n ≡ m ++ take k (take (length p - s) (drop s p)) → n ≡ o ++ take (s + k) p
sent_more o m n p s k e f =
    f ∙ ap (λ (xs : List ℕ). m ++ take k xs) (take_rest p s) ∙ ap (λ (xs : List ℕ). xs ++ take k (drop s p)) e
    ∙ append_assoc o (take s p) (take k (drop s p)) ∙ ap (λ (xs : List ℕ). o ++ xs) (sym (take-add s k p))

-- a write that takes some bytes is no failure
pub count_behind_some : (n : ℕ) (bytes : List ℕ) (failures : ℕ) → 0 < n → count_behind n bytes failures ≡ failures
count_behind_some n bytes failures pos = let ne : n ≢ 0 = omega arith in rw (ne_eqb n 0 ne) refl
