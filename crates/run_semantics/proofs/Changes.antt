-- Transmissions that are forgotten one after the other.
use Rattle.std.proofs.Common.{◌≡◌, ℕ, zero, suc, ◌+◌, ◌≤◌, Bool, true, false, not, cond, List, [], ◌∷◌, Option, Some, None, refl, sym, ap, ◌∙◌, arith, if◌then◌else◌}
use Rattle.std.specs.List.{remove}
use Rattle.run_semantics.specs.declared.routes.PlacedGate.{PlacedGate}
use Rattle.run_semantics.specs.declared.routes.Transmission.{Transmission}
use Rattle.run_semantics.specs.Routes.{is_gate, place_from, without_transmission}

-- places count from where they begin
later : (n k : ℕ) (g : PlacedGate) (ts : List Transmission) → place_from (suc n) g ts ≡ Some k → suc n ≤ k
later n k g [] e = cc
later n k g (t ∷ ts) e = by (is_gate t.gate g) e (later (suc n) k g ts)
  where
    by : (b : Bool) → (if b then Some (suc n) else place_from (suc (suc n)) g ts) ≡ Some k → (place_from (suc (suc n)) g ts ≡ Some k → suc (suc n) ≤ k) → suc n ≤ k
    by true e next = let same : suc n ≡ k = cc in omega (arith, same)
    by false e next = let l = next e in omega (arith, l)

-- what stands at the place that was found is of that gate: without it the others are the same
pub forgotten : (n k : ℕ) (g : PlacedGate) (ts : List Transmission) → place_from n g ts ≡ Some (n + k) → without_transmission g (remove ts k) ≡ without_transmission g ts
forgotten n k g [] e = cc
forgotten n zero g (t ∷ ts) e = by (is_gate t.gate g) refl e
  where
    by : (b : Bool) → is_gate t.gate g ≡ b → (if b then Some n else place_from (suc n) g ts) ≡ Some (n + 0) → without_transmission g ts ≡ without_transmission g (t ∷ ts)
    by true b e = sym (ap (λ c. cond (not c) (t ∷ without_transmission g ts) (without_transmission g ts)) b)
    by false b e = let l = later n (n + 0) g ts e in absurd (omega (arith, l))
forgotten n (suc k) g (t ∷ ts) e = by (is_gate t.gate g) e (forgotten (suc n) k g ts)
  where
    by : (b : Bool) → (if b then Some n else place_from (suc n) g ts) ≡ Some (n + suc k) → (place_from (suc n) g ts ≡ Some (suc n + k) → without_transmission g (remove ts k) ≡ without_transmission g ts) → without_transmission g (t ∷ remove ts k) ≡ without_transmission g (t ∷ ts)
    by true e next = let same : n ≡ n + suc k = cc in absurd (omega (arith, same))
    by false e next =
        let place : n + suc k ≡ suc n + k = omega arith in
        ap (λ (xs : List Transmission). cond (not (is_gate t.gate g)) (t ∷ xs) xs) (next (e ∙ ap (λ m. Some m) place))

pub none_left : (n : ℕ) (g : PlacedGate) (ts : List Transmission) → place_from n g ts ≡ None → without_transmission g ts ≡ ts
none_left n g [] e = refl
none_left n g (t ∷ ts) e = by (is_gate t.gate g) refl e (none_left (suc n) g ts)
  where
    by : (b : Bool) → is_gate t.gate g ≡ b → (if b then Some n else place_from (suc n) g ts) ≡ None → (place_from (suc n) g ts ≡ None → without_transmission g ts ≡ ts) → without_transmission g (t ∷ ts) ≡ t ∷ ts
    by true b e next = cc
    by false b e next = ap (λ c. cond (not c) (t ∷ without_transmission g ts) (without_transmission g ts)) b ∙ ap (λ (xs : List Transmission). t ∷ xs) (next e)
