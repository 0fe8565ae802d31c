-- Names with a mark after them.
use Rattle.std.proofs.Common.{◌≡◌, ℕ, Bool, true, false, List, ◌++◌, bytes_eq, length, take, drop, refl, sym, ap, ◌∙◌}
use Rattle.std.proofs.Math.Seq.{drop-append_seam, take-append_seam}
use Rattle.std.proofs.lemmas.Bool.{true≢false}
use Rattle.std.proofs.lemmas.List.{take-append-drop}
use Rattle.std.proofs.lemmas.Slice.Eq.{bytes_eq-Decides}

-- two tests that pass alike are one
same_test : (a b : Bool) → (a ≡ true → b ≡ true) → (b ≡ true → a ≡ true) → a ≡ b
same_test true true f g = refl
same_test true false f g = sym (f refl)
same_test false true f g = g refl
same_test false false f g = refl

-- what isn't true is false
is_false : (b : Bool) → (b ≡ true → ⊥) → b ≡ false
is_false true h = absurd (h refl)
is_false false h = refl

-- a name that begins with the gate's is the marked one where the rest is the mark
pub marked : (name gate mark rest : List ℕ) → bytes_eq (take (length gate) name) gate ≡ true → rest ≡ drop (length gate) name → bytes_eq rest mark ≡ bytes_eq (gate ++ mark) name
marked name gate mark rest front behind =
    let at : take (length gate) name ≡ gate = (bytes_eq-Decides (take (length gate) name) gate).0 front in
    let whole : gate ++ rest ≡ name =
    ap (λ (xs : List ℕ). gate ++ xs) behind ∙ ap (λ (xs : List ℕ). xs ++ drop (length gate) name) (sym at) ∙ take-append-drop (length gate) name in
    same_test (bytes_eq rest mark) (bytes_eq (gate ++ mark) name)
    (λ e. (bytes_eq-Decides (gate ++ mark) name).1 (ap (λ (xs : List ℕ). gate ++ xs) (sym ((bytes_eq-Decides rest mark).0 e)) ∙ whole))
    (λ e. (bytes_eq-Decides rest mark).1 (behind ∙ ap (drop (length gate)) (sym ((bytes_eq-Decides (gate ++ mark) name).0 e)) ∙ drop-append_seam gate mark))

-- one that doesn't begin so isn't
pub unmarked : (name gate mark : List ℕ) → bytes_eq (take (length gate) name) gate ≡ false → false ≡ bytes_eq (gate ++ mark) name
unmarked name gate mark front =
    sym (is_false (bytes_eq (gate ++ mark) name) (λ e.
    true≢false (sym ((bytes_eq-Decides (take (length gate) name) gate).1 (ap (take (length gate)) (sym ((bytes_eq-Decides (gate ++ mark) name).0 e)) ∙ take-append_seam gate mark)) ∙ front)))
