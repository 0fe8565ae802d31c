-- Pieces of a text, one after another.
use Rattle.std.proofs.Common.{◌≡◌, ℕ, ◌+◌, ◌≤◌, List, [], ◌++◌, Err, length, take, refl, sym, subst, ap, ◌∙◌, arith, append_assoc, length-append}
use Rattle.std.proofs.Math.Seq.{take-append-add}
use Rattle.std.proofs.lemmas.List.{take-append-le, append-nil}
use Rattle.result_lines.specs.declared.progress.WriteProgress.{WriteProgress}
use Rattle.result_lines.specs.declared.progress.WriteProgress.TheVariants.{Whole, Short}
use Rattle.sim_values.specs.Counts.{next_count}
use Rattle.result_lines.specs.Taken.{Taken}
use Rattle.result_lines.specs.Written.{IsPiece, Adds, IsWritten, answer_of, written_in}

piece_then : (p q r : WriteProgress) (t u v : Taken) (a b : List ℕ) → IsPiece p t q u a → IsPiece q u r v b → IsPiece p t r v (a ++ b)
piece_then (Whole n) (Whole m) (Whole k) t u v a b x y =
    (omega (arith, x.0, y.0, length-append a b), y.1 ∙ ap (λ (xs : List ℕ). xs ++ b) x.1 ∙ append_assoc t.bytes a b, y.2 ∙ x.2)
piece_then (Whole n) (Whole m) (Short k) t u v a b x y = (
  length a + y.0,
  omega (arith, y.1, length-append a b),
  omega (arith, x.0, y.2),
  y.3 ∙ ap (λ (xs : List ℕ). xs ++ take y.0 b) x.1 ∙ append_assoc t.bytes a (take y.0 b) ∙ ap (λ (xs : List ℕ). t.bytes ++ xs) (sym (take-append-add a b y.0)),
  y.4 ∙ ap next_count x.2,
)
piece_then (Whole n) (Short m) (Short k) t u v a b x y =
    let le : x.0 ≤ length a = omega (arith, x.1) in
    (x.0, omega (arith, x.1, length-append a b), omega (arith, x.2, y.0), y.1 ∙ x.3 ∙ ap (λ (xs : List ℕ). t.bytes ++ xs) (sym (take-append-le x.0 a b le)), y.2 ∙ x.4)
piece_then (Whole n) (Short m) (Whole k) t u v a b x y = absurd y
piece_then (Short n) (Whole m) r t u v a b x y = absurd x
piece_then (Short n) (Short m) (Whole k) t u v a b x y = absurd y
piece_then (Short n) (Short m) (Short k) t u v a b x y = (y.0 ∙ x.0, y.1 ∙ x.1, y.2 ∙ x.2)

-- one piece after another is their text
pub adds_then : {p q r : WriteProgress} {t u v : Taken} {a b : List ℕ} → Adds p t q u a → Adds q u r v b → Adds p t r v (a ++ b)
adds_then {p} {q} {r} {t} {u} {v} {a} {b} x y = record { adds = piece_then p q r t u v a b x.adds y.adds }

piece_none : (p : WriteProgress) (t : Taken) → IsPiece p t p t []
piece_none (Whole n) t = (omega arith, sym (append-nil t.bytes), refl)
piece_none (Short n) t = (refl, refl, refl)

-- nothing is written
pub adds_none : (p : WriteProgress) (t : Taken) → Adds p t p t []
adds_none p t = record { adds = piece_none p t }

piece_short : (p q : WriteProgress) (t u : Taken) (a : List ℕ) → IsPiece p t q u a → written_in q ≤ written_in p + length a
piece_short (Whole n) (Whole m) t u a x = omega (arith, x.0)
piece_short (Whole n) (Short m) t u a x = omega (arith, x.1, x.2)
piece_short (Short n) (Whole m) t u a x = absurd x
piece_short (Short n) (Short m) t u a x = omega (arith, x.0)

pub adds_short : {p q : WriteProgress} {t u : Taken} {a : List ℕ} → Adds p t q u a → written_in q ≤ written_in p + length a
adds_short {p} {q} {t} {u} {a} x = piece_short p q t u a x.adds

-- Writing what is left from here is writing all the text from there.
abbrev pub GoesOn : WriteProgress → Taken → List ℕ → WriteProgress → Taken → List ℕ → Type 0
GoesOn p t text q u left = (r : WriteProgress) (v : Taken) → Adds q u r v left → Adds p t r v text

-- the first piece of what is left, and then the rest
pub adds_more : {p q r : WriteProgress} {t u v : Taken} {piece rest left : List ℕ} → left ≡ piece ++ rest → Adds p t q u piece → Adds q u r v rest → Adds p t r v left
adds_more {p} {q} {r} {t} {u} {v} same x y = subst (λ (text : List ℕ). Adds p t r v text) (sym same) (adds_then x y)

-- a text that was not written to its end
written_short : (t u : Taken) (text : List ℕ) (n : ℕ) → Adds (Whole 0) t (Short n) u text → IsWritten t u text (Err (record { written = n }))
written_short t u text n x =
    let same : x.adds.0 ≡ n = omega (arith, x.adds.2) in
    (omega (arith, x.adds.1), x.adds.3 ∙ ap (λ (k : ℕ). t.bytes ++ take k text) same, x.adds.4)

-- what a call answers that has written a text
pub written : (p : WriteProgress) (t u : Taken) (text : List ℕ) → Adds (Whole 0) t p u text → IsWritten t u text (answer_of p)
written (Whole n) t u text x = (x.adds.1, x.adds.2)
written (Short n) t u text x = written_short t u text n x
