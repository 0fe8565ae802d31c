-- What the characters at the end of a pattern tell.
use Rattle.std.proofs.Common.{◌≡◌, ◌↔◌, ℕ, List, [], ◌∷◌, ◌++◌, append_assoc, refl, sym, ap, subst, ◌∙◌}
use Rattle.std.proofs.lemmas.List.{append-nil, append_cancel_right}
use Rattle.ini_pattern.specs.declared.piece.Piece.{Piece}
use Rattle.ini_pattern.specs.declared.piece.Piece.TheVariants.{AnyPath, Char}
use Rattle.ini_pattern.specs.Matches.{Covers, Matches}
use Rattle.ini_pattern.specs.Reading.{EndsNotWith}
use Rattle.ini_pattern.proofs.CoverLemmas.{covers_append, covers_split, covers_end}

-- the pieces that are left have to leave what was taken off the name's end
pub record EndedSoFar (ps left : List Piece) (name rest : List ℕ) : Type 0 where
  pub end : List ℕ
  pub within : name ≡ rest ++ end
  pub same : Matches ps name ↔ Covers left name end

pub ended_begin : (ps : List Piece) (name : List ℕ) → EndedSoFar ps ps name name
ended_begin ps name = record { end = []; within = sym (append-nil name); same = (λ w. w, λ w. w) }

-- a character at the end of pieces stands before what they leave
char_split : (before : List Piece) (c : ℕ) (n r : List ℕ) → Covers (before ++ (Char c ∷ [])) n r → Covers before n (c ∷ r)
char_split before c n r w =
    let parts = covers_split before (Char c ∷ []) n r w in
    let last = parts.2 in
    let there : parts.0 ≡ c ∷ r = last.2 ∙ ap (λ l. l ++ last.1) last.3 ∙ ap (λ l. c ∷ l) last.4 in
    subst (λ l. Covers before n l) there parts.1

char_join : (before : List Piece) (c : ℕ) (n r : List ℕ) → Covers before n (c ∷ r) → Covers (before ++ (Char c ∷ [])) n r
char_join before c n r w = covers_append before (Char c ∷ []) n (c ∷ r) r w (c ∷ [], r, refl, refl, refl)

pub ended_next : (ps left before : List Piece) (name rest front : List ℕ) (c : ℕ) → EndedSoFar ps left name rest → left ≡ before ++ (Char c ∷ []) → rest ≡ front ++ (c ∷ []) → EndedSoFar ps before name front
ended_next ps left before name rest front c w e f = record {
  end = c ∷ w.end;
  within = w.within ∙ ap (λ l. l ++ w.end) f ∙ append_assoc front (c ∷ []) w.end;
  same = (
    λ k. char_split before c name w.end (subst (λ l. Covers l name w.end) e (w.same.0 k)),
    λ k. w.same.1 (subst (λ l. Covers l name w.end) (sym e) (char_join before c name w.end k)),
  );
}

pub ended_apart : (ps left before : List Piece) (name rest : List ℕ) (c : ℕ) → EndedSoFar ps left name rest → left ≡ before ++ (Char c ∷ []) → EndsNotWith c rest → Matches ps name → ⊥
ended_apart ps left before name rest c w e none k =
    let ends = covers_end before name (c ∷ w.end) (char_split before c name w.end (subst (λ l. Covers l name w.end) e (w.same.0 k))) in
    none ends.0 (append_cancel_right rest (ends.0 ++ (c ∷ [])) w.end (sym w.within ∙ ends.1 ∙ sym (append_assoc ends.0 (c ∷ []) w.end)))

pub ended_nothing : (ps left : List Piece) (name rest : List ℕ) → EndedSoFar ps left name rest → left ≡ [] → (rest ≡ [] ↔ Matches ps name)
ended_nothing ps left name rest w e = (
  λ f. w.same.1 (subst (λ l. Covers l name w.end) (sym e) (w.within ∙ ap (λ l. l ++ w.end) f)),
  λ k. append_cancel_right rest [] w.end (sym w.within ∙ subst (λ l. Covers l name w.end) e (w.same.0 k)),
)

pub ended_path : (ps left : List Piece) (name rest : List ℕ) → EndedSoFar ps left name rest → left ≡ AnyPath ∷ [] → Matches ps name
ended_path ps left name rest w e =
    w.same.1 (subst (λ l. Covers l name w.end) (sym e) (rest, w.end, w.within, tt, refl))
