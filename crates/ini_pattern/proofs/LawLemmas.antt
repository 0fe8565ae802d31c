-- The laws of matching.
use Rattle.std.proofs.Common.{◌≡◌, ◌↔◌, ℕ, ◌⊎◌, inl, inr, Bool, true, false, not, ◌||◌, eqb, Some, List, [], ◌∷◌, ◌++◌, map, length, append-nil, append_assoc, refl, sym, ap, subst, ◌∙◌}
use Rattle.std.specs.Option.{option_map}
use Rattle.std.proofs.lemmas.Bool.{and_parts, or_parts, not-true, false≢true}
use Rattle.ini_pattern.specs.declared.piece.Piece.{Piece}
use Rattle.ini_pattern.specs.declared.piece.Piece.TheVariants.{AnyPath, AnyName, AnyChar, Char, Set, Number}
use Rattle.ini_pattern.specs.Matches.{has_no_dot, begins_with_digit, Takes, Covers}
use Rattle.ini_pattern.specs.PatternOf.{piece_in, pieces_in, pattern_of}
use Rattle.ini_pattern.specs.Laws.{is_wildcard, is_plain, PlainMatchesItself, TwoStarsMatchAll, StarStopsAtDot, MatchesBeforeDot}
use Rattle.ini_pattern.proofs.CoverLemmas.{covers_split}

plain_piece : (c : ℕ) (cs : List ℕ) → is_wildcard c ≡ false → piece_in c cs ≡ Some (Char c ∷ [], cs)
plain_piece c cs h =
    let one = or_parts (eqb c 42) (eqb c 63 || (eqb c 123 || (eqb c 91 || eqb c 92))) h in
    let two = or_parts (eqb c 63) (eqb c 123 || (eqb c 91 || eqb c 92)) one.1 in
    let three = or_parts (eqb c 123) (eqb c 91 || eqb c 92) two.1 in
    let four = or_parts (eqb c 91) (eqb c 92) three.1 in
    rw (one.0, two.0, three.0, four.0, four.1) refl

plain_pieces : (text : List ℕ) → is_plain text ≡ true → pieces_in (length text) text ≡ Some (map Char text)
plain_pieces [] h = refl
plain_pieces (c ∷ cs) h =
    let parts = and_parts (not (is_wildcard c)) (is_plain cs) h in
    rw (plain_piece c cs (not-true _ parts.0)) (ap (option_map (λ more. Char c ∷ more)) (plain_pieces cs parts.1))

plain_covers : (text name : List ℕ) → Covers (map Char text) name [] → name ≡ text
plain_covers [] name w = w
plain_covers (c ∷ cs) name w =
    w.2 ∙ ap (λ l. l ++ w.1) w.3 ∙ ap (λ l. c ∷ l) (plain_covers cs w.1 w.4)

plain_covered : (text : List ℕ) → Covers (map Char text) text []
plain_covered [] = refl
plain_covered (c ∷ cs) = (c ∷ [], cs, refl, refl, plain_covered cs)

pub plain_law : PlainMatchesItself
unfolding pattern_of
plain_law text h =
    (plain_pieces text h, λ name. (λ w. plain_covers text name w, λ e. subst (λ l. Covers (map Char text) l []) (sym e) (plain_covered text)))

pub two_stars_law : TwoStarsMatchAll
unfolding pattern_of
two_stars_law = (refl, λ name. (name, [], sym (append-nil name), tt, refl))

pub star_law : StarStopsAtDot
unfolding pattern_of
star_law = (
  refl,
  λ name. (
    λ w. subst (λ l. has_no_dot l ≡ true) (sym (w.2 ∙ ap (λ l. w.0 ++ l) w.4 ∙ append-nil w.0)) w.3,
    λ h. (name, [], sym (append-nil name), h, refl),
  ),
)

-- what follows a match may be cut off
no_digit_cut : (left tail : List ℕ) → begins_with_digit (left ++ tail) ≡ false → begins_with_digit left ≡ false
no_digit_cut [] tail h = refl
no_digit_cut (c ∷ left) tail h = h

takes_cut : (p : Piece) (taken left tail : List ℕ) → Takes p taken (left ++ tail) → Takes p taken left
takes_cut AnyPath taken left tail w = tt
takes_cut AnyName taken left tail w = w
takes_cut AnyChar taken left tail w = w
takes_cut (Char c) taken left tail w = w
takes_cut (Set negated ranges) taken left tail w = w
takes_cut (Number low high) taken left tail w = record {
  digits = w.digits;
  some = w.some;
  short = w.short;
  whole = no_digit_cut left tail w.whole;
  above = w.above;
  below = w.below;
}

covers_cut : (ps : List Piece) (name tail : List ℕ) → Covers ps name tail → (front : List ℕ) × (name ≡ front ++ tail) × Covers ps front []
covers_cut [] name tail w = ([], w, refl)
covers_cut (p ∷ ps) name tail w =
    let rest = covers_cut ps w.1 tail w.4 in (
      w.0 ++ rest.0,
      w.2 ∙ ap (λ l. w.0 ++ l) rest.1 ∙ sym (append_assoc w.0 rest.0 tail),
      (w.0, rest.0, refl, takes_cut p w.0 rest.0 tail (subst (λ l. Takes p w.0 l) rest.1 w.3), rest.2),
    )

pub before_dot_law : MatchesBeforeDot
before_dot_law pieces name w =
    let parts = covers_split pieces (Char 46 ∷ AnyPath ∷ []) name [] w in
    let dot : parts.0 ≡ 46 ∷ parts.2.1 = parts.2.2 ∙ ap (λ l. l ++ parts.2.1) parts.2.3 in
    let cut = covers_cut pieces name parts.0 parts.1 in
    (cut.0, parts.2.1, cut.1 ∙ ap (λ l. cut.0 ++ l) dot, cut.2)

pub decided : {P : Type 0} (b : Bool) → (b ≡ true) ↔ P → P ⊎ (P → ⊥)
decided true h = inl (h.0 refl)
decided false h = inr (λ p. false≢true (h.1 p))
