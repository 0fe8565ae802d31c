-- Laws of the numbers of sections, and of the rows of what they extend.
use Rattle.std.proofs.Common.{◌≡◌, inl, inr, ℕ, zero, suc, ◌+◌, ◌<◌, ◌≤◌, List, [], ◌∷◌, ◌++◌, length, get_or, set, Option, None, sym, subst, arith}
use Rattle.std.specs.List.{Contains}
use Rattle.std.proofs.lemmas.Bool.{cases_lt}
use Rattle.std.proofs.lemmas.List.{get_or_append_left, get_or_push}
use Rattle.ini_trees.specs.declared.lines.IniLine.{IniLine}
use Rattle.ini_trees.specs.Numbers.{name_at, AreNumbers, bases_at, left_to_pass, ReachedIn, IsWithin}
use Rattle.ini_trees.specs.Sections.{bases_named}
use Rattle.ini_trees.specs.Words.{Bytes}

-- ---- rows

pub rows_more : (lines : List IniLine) (names : List Bytes) (rows : List (Option (List ℕ))) (row : Option (List ℕ)) (i : ℕ) → length rows ≡ i → ((k : ℕ) → k < i → AreNumbers names (bases_named (name_at names k) lines) (get_or rows k None)) → AreNumbers names (bases_named (name_at names i) lines) row → (k : ℕ) → k < i + 1 → AreNumbers names (bases_named (name_at names k) lines) (get_or (rows ++ row ∷ []) k None)
rows_more lines names rows row i size fit new k h =
    elim (cases_lt k i) [
      | inl below ↦
          let within : k < length rows = omega arith in
          subst (AreNumbers names (bases_named (name_at names k) lines)) (sym (get_or_append_left rows (row ∷ []) None k within)) (fit k below)
      | inr past ↦
          let same : i ≡ k = omega arith in
          let at : get_or (rows ++ row ∷ []) i None ≡ row = get_or_push rows row None i size in
          subst (λ (n : ℕ). AreNumbers names (bases_named (name_at names n) lines) (get_or (rows ++ row ∷ []) n None)) same
          (subst (AreNumbers names (bases_named (name_at names i) lines)) (sym at) new)
    ]

-- ---- how much is left of a walk

pub passes_one : (passed : List ℕ) (rows : List (Option (List ℕ))) (k : ℕ) → k < length passed → k < length rows → get_or passed k 0 ≤ length (bases_at rows k) → left_to_pass (set passed k (get_or passed k 0 + 1)) rows < left_to_pass passed rows
passes_one [] rows k h i le = absurd (omega arith)
passes_one (p ∷ ps) [] k h i le = absurd (omega arith)
passes_one (p ∷ ps) (r ∷ rs) zero h i le = omega arith
passes_one (p ∷ ps) (r ∷ rs) (suc k) h i le = let rest = passes_one ps rs k (omega arith) (omega arith) le in omega arith

-- ---- circles

-- where each of these extends another of them, they go to no depth
pub no_depth_in_circle : (rows : List (Option (List ℕ))) (path : List ℕ) → ((k : ℕ) → Contains path k → (b : ℕ) × Contains (bases_at rows k) b × Contains path b) → (d k : ℕ) → Contains path k → IsWithin d rows k → ⊥
no_depth_in_circle rows path round zero k c w = w
no_depth_in_circle rows path round (suc d) k c w =
    let next = round k c in
    no_depth_in_circle rows path round d next.0 next.2 (w.2 next.0 next.1)

-- what one goes to no depth from, goes to none itself
pub no_depth_above : (rows : List (Option (List ℕ))) (root k j : ℕ) → ReachedIn j rows root k → ((d : ℕ) → IsWithin d rows k → ⊥) → (d : ℕ) → IsWithin d rows root → ⊥
no_depth_above rows root k zero reached none d w = none d (subst (IsWithin d rows) (sym reached) w)
no_depth_above rows root k (suc j) reached none d w = no_depth_above rows root reached.0 j reached.1 above d w
  where
    above : (e : ℕ) → IsWithin e rows reached.0 → ⊥
    above zero v = v
    above (suc e) v = none e (v.2 k reached.2)
