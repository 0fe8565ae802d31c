-- Pieces that begin later do not end earlier.
use Rattle.std.proofs.Common.{◌≡◌, ℕ, ◌⊎◌, inl, inr, true, false, not, eqb, Option, List, [], ◌∷◌, ◌++◌, append_assoc, refl, sym, ap, subst, ◌∙◌}
use Rattle.std.specs.Char.{is_ascii_digit}
use Rattle.std.specs.List.{list_all}
use Rattle.std.proofs.lemmas.Bool.{and_parts, false≢true}
use Rattle.ini_pattern.specs.declared.piece.Piece.{Piece}
use Rattle.ini_pattern.specs.declared.piece.Piece.TheVariants.{AnyPath, AnyName, AnyChar, Char, Set, Number}
use Rattle.ini_pattern.specs.Matches.{has_no_dot, begins_with_digit, Takes, Covers}
use Rattle.ini_pattern.specs.Reading.{EndsWith}
use Rattle.ini_pattern.proofs.CoverLemmas.{cuts}

-- what comes of a piece that is tried at a text and at an end of it: the first try ends no later,
-- or can end as the second does
abbrev pub NoLater : Piece → List ℕ → List ℕ → List ℕ → Type 0
NoLater p s first second = EndsWith first second ⊎ ((taken : List ℕ) × (s ≡ taken ++ second) × Takes p taken second)

one_char : (s first x second : List ℕ) (c d : ℕ) → s ≡ c ∷ first → s ≡ x ++ (d ∷ second) → EndsWith first second
one_char s first [] second c d e f = ([], cc)
one_char s first (y ∷ x) second c d e f =
    let same : first ≡ x ++ (d ∷ second) = cc in
    (x ++ d ∷ [], same ∙ sym (append_assoc x (d ∷ []) second))

pub no_dot_front : (f g : List ℕ) → has_no_dot (f ++ g) ≡ true → has_no_dot f ≡ true
no_dot_front [] g h = refl
no_dot_front (c ∷ f) g h =
    let parts = and_parts (not (eqb c 46)) (has_no_dot (f ++ g)) h in
    rw (parts.0, no_dot_front f g parts.1) refl

digits_back : (f g : List ℕ) → list_all is_ascii_digit (f ++ g) ≡ true → list_all is_ascii_digit g ≡ true
digits_back [] g h = h
digits_back (c ∷ f) g h = digits_back f g ((and_parts (is_ascii_digit c) (list_all is_ascii_digit (f ++ g)) h).1)

-- the front of a text that one piece takes, and what a later try of it takes
record Tried (p : Piece) (s taken first x taken' second : List ℕ) : Type 0 where
  here : s ≡ taken ++ first
  takes : Takes p taken first
  later : s ≡ (x ++ taken') ++ second
  takes' : Takes p taken' second

star_no_later : (s taken first x taken' second : List ℕ) → Tried AnyName s taken first x taken' second → NoLater AnyName s first second
star_no_later s taken first x taken' second w =
    elim (cuts taken first (x ++ taken') second (sym w.here ∙ w.later)) [
      | inl v ↦ inl (v.0, v.2)
      | inr v ↦ inr (x ++ taken', w.later, no_dot_front (x ++ taken') v.0 (subst (λ l. has_no_dot l ≡ true) v.1 w.takes))
    ]

number_tail : (z first second : List ℕ) → second ≡ z ++ first → list_all is_ascii_digit z ≡ true → begins_with_digit second ≡ false → EndsWith first second
number_tail [] first second e digits whole = ([], sym e)
number_tail (c ∷ z) first second e digits whole =
    let digit = (and_parts (is_ascii_digit c) (list_all is_ascii_digit z) digits).0 in
    let begins : is_ascii_digit c ≡ false = subst (λ l. begins_with_digit l ≡ false) e whole in
    absurd (false≢true (sym begins ∙ digit))

number_no_later : (low : ℕ) (high : Option ℕ) (s taken first x taken' second : List ℕ) → Tried (Number low high) s taken first x taken' second → NoLater (Number low high) s first second
number_no_later low high s taken first x taken' second w =
    elim (cuts taken first (x ++ taken') second (sym w.here ∙ w.later)) [
      | inl v ↦ inl (v.0, v.2)
      | inr v ↦ inl (number_tail v.0 first second v.2 (digits_back (x ++ taken') v.0 (subst (λ l. list_all is_ascii_digit l ≡ true) v.1 w.takes.digits)) w.takes'.whole)
    ]

char_no_later : (s taken first x taken' second : List ℕ) (c d : ℕ) → s ≡ taken ++ first → s ≡ (x ++ taken') ++ second → taken ≡ c ∷ [] → taken' ≡ d ∷ [] → EndsWith first second
char_no_later s taken first x taken' second c d e f one one' =
    one_char s first x second c d (e ∙ ap (λ l. l ++ first) one) (f ∙ append_assoc x taken' second ∙ ap (λ l. x ++ (l ++ second)) one')

no_later : (p : Piece) (s taken first x taken' second : List ℕ) → Tried p s taken first x taken' second → NoLater p s first second
no_later AnyPath s taken first x taken' second w = inr (x ++ taken', w.later, tt)
no_later AnyName s taken first x taken' second w = star_no_later s taken first x taken' second w
no_later AnyChar s taken first x taken' second w =
    inl (char_no_later s taken first x taken' second w.takes.0 w.takes'.0 w.here w.later w.takes.1 w.takes'.1)
no_later (Char c) s taken first x taken' second w =
    inl (char_no_later s taken first x taken' second c c w.here w.later w.takes w.takes')
no_later (Set negated ranges) s taken first x taken' second w =
    inl (char_no_later s taken first x taken' second w.takes.0 w.takes'.0 w.here w.later w.takes.1 w.takes'.1)
no_later (Number low high) s taken first x taken' second w = number_no_later low high s taken first x taken' second w

-- pieces tried at a text and at an end of it
pub cross : (ps : List Piece) (s t e u : List ℕ) → EndsWith s t → Covers ps s e → Covers ps t u → EndsWith e u ⊎ Covers ps s u
cross [] s t e u w v v' = inl (w.0, sym v ∙ w.1 ∙ ap (λ l. w.0 ++ l) v')
cross (p ∷ ps) s t e u w v v' =
    let later : s ≡ (w.0 ++ v'.0) ++ v'.1 = w.1 ∙ ap (λ l. w.0 ++ l) v'.2 ∙ sym (append_assoc w.0 v'.0 v'.1) in
    elim (no_later p s v.0 v.1 w.0 v'.0 v'.1 (record { here = v.2; takes = v.3; later = later; takes' = v'.3 })) [
      | inl ends ↦
          elim (cross ps v.1 v'.1 e u ends v.4 v'.4) [
            | inl over ↦ inl over
            | inr again ↦ inr (v.0, v.1, v.2, v.3, again)
          ]
      | inr joins ↦ inr (joins.0, v'.1, joins.1, joins.2, v'.4)
    ]
