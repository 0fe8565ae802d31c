-- Last names of paths have no last name but themselves.
use Rattle.std.proofs.Common.{◌≡◌, ◌≢◌, ◌⊎◌, inl, inr, ℕ, zero, suc, ◌+◌, ◌-◌, ◌<◌, ◌≤◌, List, [], ◌∷◌, length, drop, get_or, refl, sym, ap, ◌∙◌, arith}
use Rattle.std.proofs.lemmas.Bool.{cases_eq}
use Rattle.std.proofs.lemmas.List.{get_or-drop, length-drop}
use Rattle.ini_trees.specs.Entries.{last_name}
use Rattle.ini_trees.proofs.ScanLaws.{last_name_is}

-- where the last name begins: no dot stands behind there, and one right before
record Begins (xs : List ℕ) : Type 0 where
  start : ℕ
  within : start ≤ length xs
  none : (k : ℕ) → start ≤ k → k < length xs → get_or xs k 0 ≡ 46 → ⊥
  dot : 0 < start → get_or xs (start - 1) 0 ≡ 46

begins : (xs : List ℕ) → Begins xs
begins [] = record { start = 0; within = omega arith; none = λ k low high. absurd (omega (arith, high)); dot = λ h. absurd (omega (arith, h)) }
begins (c ∷ cs) = by (begins cs)
  where
    first : (r : Begins cs) → r.start ≡ 0 → (c ≡ 46) ⊎ (c ≢ 46) → Begins (c ∷ cs)
    first r none (inl dot) = record {
      start = 1;
      within = omega arith;
      none = λ k low high. behind k low high;
      dot = λ h. dot;
    }
      where
        behind : (k : ℕ) → 1 ≤ k → k < suc (length cs) → get_or (c ∷ cs) k 0 ≡ 46 → ⊥
        behind zero low high = absurd (omega (arith, low))
        behind (suc k) low high = r.none k (omega (arith, none)) (omega (arith, high))
    first r none (inr other) = record {
      start = 0;
      within = omega arith;
      none = λ k low high. anywhere k high;
      dot = λ h. absurd (omega (arith, h));
    }
      where
        anywhere : (k : ℕ) → k < suc (length cs) → get_or (c ∷ cs) k 0 ≡ 46 → ⊥
        anywhere zero high = other
        anywhere (suc k) high = r.none k (omega (arith, none)) (omega (arith, high))

    later : (r : Begins cs) (m : ℕ) → r.start ≡ suc m → Begins (c ∷ cs)
    later r m is = record {
      start = suc r.start;
      within = let w = r.within in omega (arith, w);
      none = λ k low high. behind k low high;
      dot = λ h. ap (λ n. get_or (c ∷ cs) n 0) (let e : suc r.start - 1 ≡ suc m = omega (arith, is) in e) ∙ ap (λ n. get_or cs n 0) (let e : m ≡ r.start - 1 = omega (arith, is) in e) ∙ r.dot (omega (arith, is));
    }
      where
        behind : (k : ℕ) → suc r.start ≤ k → k < suc (length cs) → get_or (c ∷ cs) k 0 ≡ 46 → ⊥
        behind zero low high = absurd (omega (arith, low))
        behind (suc k) low high = r.none k (omega (arith, low)) (omega (arith, high))

    by : Begins cs → Begins (c ∷ cs)
    by r = go r.start refl
      where
        go : (n : ℕ) → r.start ≡ n → Begins (c ∷ cs)
        go zero e = first r e (cases_eq c 46)
        go (suc m) e = later r m e

pub last_twice : (path : List ℕ) → last_name (last_name path) ≡ last_name path
last_twice path =
    let r = begins path in
    let is : drop r.start path ≡ last_name path = last_name_is path r.start r.within r.none r.dot in
    ap last_name (sym is)
    ∙ sym (last_name_is (drop r.start path) 0 (omega arith)
    (λ k low high e. r.none (r.start + k) (omega arith) (let l = length-drop r.start path in omega (arith, l, high)) (sym (get_or-drop r.start path k 0) ∙ e))
    (λ h. absurd (omega (arith, h))))
    ∙ is
