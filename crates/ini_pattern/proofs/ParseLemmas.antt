-- Reading a pattern goes on with less text.
use Rattle.std.proofs.Common.{◌≡◌, ℕ, zero, suc, ◌-◌, ◌<◌, ◌≤◌, inl, inr, Bool, true, false, not, ◌&&◌, cond, eqb, leb, Option, Some, None, List, [], ◌∷◌, ◌++◌, length, drop, append-nil, append_assoc, refl, sym, ap, subst, ◌∙◌, arith}
use Rattle.std.specs.Prelude.{option_and_then}
use Rattle.std.specs.Option.{option_map}
use Rattle.std.specs.Char.{is_ascii_digit}
use Rattle.std.proofs.lemmas.Bool.{cases_Bool}
use Rattle.ini_pattern.specs.declared.piece.CharRange.{CharRange}
use Rattle.ini_pattern.specs.declared.piece.Piece.{Piece}
use Rattle.ini_pattern.specs.declared.piece.Piece.TheVariants.{AnyPath, AnyName, AnyChar, Char}
use Rattle.ini_pattern.specs.declared.pattern.PatternFault.{PatternFault}
use Rattle.ini_pattern.specs.declared.pattern.PatternFault.TheVariants.{BadPattern, NoMemory}
use Rattle.ini_pattern.specs.Fault.{OnBadPattern}
use Rattle.ini_pattern.specs.PatternOf.{begins_with, after_backslash, set_char, range_to, range_from, ranges_in, ranges_of, set_and_rest, set_in, digits_front, after_digits, Bounds, bounds_from, bounds_in, number_between, number_and_rest, braced, bracketed, piece_in, pieces_in, pattern_of}
use Rattle.ini_pattern.proofs.CoverLemmas.{none_some}

-- with a list before the first of a pair
abbrev pub with_front : {A : Type 0} → List A → List A × List ℕ → List A × List ℕ
with_front front found = (front ++ found.0, found.1)

-- the ranges so far and those that are left are those of the text
pub record RangesSoFar (ranges : List CharRange) (text rest : List ℕ) : Type 0 where
  pub fuel : ℕ
  pub enough : length rest ≤ fuel
  pub told : option_map (with_front ranges) (ranges_in fuel rest) ≡ ranges_of text

-- the pieces so far and those that are left are those of the text
pub record PiecesSoFar (pieces : List Piece) (text rest : List ℕ) : Type 0 where
  pub fuel : ℕ
  pub enough : length rest ≤ fuel
  pub told : option_map (λ more. pieces ++ more) (pieces_in fuel rest) ≡ pattern_of text

-- what is found leaves at most so many characters
abbrev pub Within : {A : Type 0} → ℕ → Option (A × List ℕ) → Type 0
Within n None = Unit {0}
Within n (Some found) = length found.1 ≤ n

within_le : {A : Type 0} (m n : ℕ) (o : Option (A × List ℕ)) → m ≤ n → Within m o → Within n o
within_le m n None le w = tt
within_le m n (Some found) le w = omega arith

within_if : {A : Type 0} (n : ℕ) (t : Bool) (a b : Option (A × List ℕ)) → Within n a → Within n b → Within n (cond t a b)
within_if n true a b v w = v
within_if n false a b v w = w

within_then : {A B : Type 0} (m n : ℕ) (k : A × List ℕ → Option (B × List ℕ)) (o : Option (A × List ℕ)) → Within m o → ((found : A × List ℕ) → length found.1 ≤ m → Within n (k found)) → Within n (option_and_then k o)
within_then m n k None w h = tt
within_then m n k (Some found) w h = h found w

within_map : {A B : Type 0} (n : ℕ) (g : A × List ℕ → B) (o : Option (A × List ℕ)) → Within n o → Within n (option_map (λ found. (g found, found.1)) o)
within_map n g None w = tt
within_map n g (Some found) w = w

drop_within : (k : ℕ) (l : List ℕ) → length (drop k l) ≤ length l
drop_within zero l = omega arith
drop_within (suc k) [] = omega arith
drop_within (suc k) (c ∷ cs) = omega (arith, drop_within k cs)

backslash_within : (t : List ℕ) → Within (length t) (after_backslash t)
backslash_within [] = tt
backslash_within (c ∷ cs) = omega arith

char_within : (t : List ℕ) → Within (length t - 1) (set_char t)
char_within [] = tt
char_within (c ∷ cs) =
    within_if (suc (length cs) - 1) (eqb c 92) (after_backslash cs) (Some (c, cs)) (within_le (length cs) (suc (length cs) - 1) (after_backslash cs) (omega arith) (backslash_within cs)) (omega arith)

range_to_within : (first : ℕ) (last : ℕ × List ℕ) (n : ℕ) → length last.1 ≤ n → Within n (range_to first last)
range_to_within first last n le = within_if n (leb first last.0) _ None le tt

range_within : (first : ℕ × List ℕ) → Within (length first.1) (range_from first)
range_within first =
    let self : length first.1 ≤ length first.1 = omega arith in
    within_if (length first.1) (begins_with 45 first.1 && not (begins_with 125 (drop 1 first.1)))
    (option_and_then (range_to first.0) (set_char (drop 1 first.1)))
    (Some (record { first = first.0; last = first.0 }, first.1))
    (within_then (length first.1) (length first.1) (range_to first.0) (set_char (drop 1 first.1))
    (within_le (length (drop 1 first.1) - 1) (length first.1) _ (omega (arith, drop_within 1 first.1)) (char_within (drop 1 first.1)))
    (λ last le. range_to_within first.0 last (length first.1) le))
    self

pub item_within : (t : List ℕ) → Within (length t - 1) (option_and_then range_from (set_char t))
item_within t =
    within_then (length t - 1) (length t - 1) range_from (set_char t) (char_within t)
    (λ first le. within_le (length first.1) (length t - 1) (range_from first) le (range_within first))

ranges_within : (n : ℕ) (t : List ℕ) → Within (length t) (ranges_in n t)
ranges_within zero t = tt
ranges_within (suc n) t =
    within_if (length t) (begins_with 125 t) (Some ([], drop 1 t))
    (option_and_then (λ first. option_map (λ more. (first.0 ∷ more.0, more.1)) (ranges_in n first.1)) (option_and_then range_from (set_char t)))
    (drop_within 1 t)
    (within_then (length t - 1) (length t) (λ first. option_map (λ more. (first.0 ∷ more.0, more.1)) (ranges_in n first.1)) (option_and_then range_from (set_char t)) (item_within t)
    (λ first le. within_le (length first.1) (length t) (option_map (λ more. (first.0 ∷ more.0, more.1)) (ranges_in n first.1)) (omega arith) (within_map (length first.1) (λ more. first.0 ∷ more.0) (ranges_in n first.1) (ranges_within n first.1))))

set_rest_within : (negated : Bool) (found : List CharRange × List ℕ) (n : ℕ) → length found.1 ≤ n → Within n (set_and_rest negated found)
set_rest_within negated ([], rest) n le = tt
set_rest_within negated (range ∷ ranges, rest) n le = le

set_within : (t : List ℕ) → Within (length t) (set_in t)
set_within t =
    within_if (length t) (begins_with 94 t) (option_and_then (set_and_rest true) (ranges_of (drop 1 t))) (option_and_then (set_and_rest false) (ranges_of t))
    (within_then (length t) (length t) (set_and_rest true) (ranges_of (drop 1 t)) (within_le (length (drop 1 t)) (length t) (ranges_of (drop 1 t)) (drop_within 1 t) (ranges_within (length (drop 1 t)) (drop 1 t))) (λ found le. set_rest_within true found (length t) le))
    (within_then (length t) (length t) (set_and_rest false) (ranges_of t) (ranges_within (length t) t) (λ found le. set_rest_within false found (length t) le))

digits_within : (t : List ℕ) → length (after_digits t) ≤ length t
digits_within [] = omega arith
digits_within (c ∷ cs) =
    elim (cases_Bool (is_ascii_digit c)) [
      | inl h ↦ rw h (omega (arith, digits_within cs))
      | inr h ↦ rw h (omega arith)
    ]

-- bounds leave at most so many characters
abbrev BoundsWithin : ℕ → Option Bounds → Type 0
BoundsWithin n None = Unit {0}
BoundsWithin n (Some bounds) = length bounds.rest ≤ n

bounds_if : (n : ℕ) (t : Bool) (a : Option Bounds) → BoundsWithin n a → BoundsWithin n (cond t a None)
bounds_if n true a w = w
bounds_if n false a w = tt

bounds_within : (close : ℕ) (t : List ℕ) → BoundsWithin (length t) (bounds_in close t)
bounds_within close t =
    let rest = drop 2 (after_digits t) in
    let shorter = drop_within 2 (after_digits t) in
    let more = drop_within 1 (after_digits rest) in
    let less : length (drop 1 (after_digits rest)) ≤ length t = omega (arith, digits_within t, digits_within rest) in
    bounds_if (length t) (begins_with 46 (after_digits t) && begins_with 46 (drop 1 (after_digits t))) (bounds_from close (digits_front t) rest)
    (bounds_if (length t) (begins_with close (after_digits rest)) (Some (record { low = digits_front t; high = digits_front rest; rest = drop 1 (after_digits rest) })) less)

number_within : {A : Type 0} (g : Piece → A) (o : Option Piece) (rest : List ℕ) (n : ℕ) → length rest ≤ n → Within n (option_map (λ piece. (g piece, rest)) o)
number_within g None rest n le = tt
number_within g (Some piece) rest n le = le

braced_within : (t : List ℕ) (o : Option Bounds) → BoundsWithin (length t) o → Within (length t) (braced t o)
braced_within t None w = within_map (length t) (λ found. found.0 ∷ []) (set_in t) (set_within t)
braced_within t (Some bounds) w = number_within (λ piece. piece ∷ []) (number_between bounds.low bounds.high) bounds.rest (length t) w

bracketed_within : (t : List ℕ) (o : Option Bounds) → BoundsWithin (length t) o → Within (length t) (bracketed t o)
bracketed_within t None w = omega arith
bracketed_within t (Some bounds) w = number_within (λ piece. Char 91 ∷ piece ∷ Char 93 ∷ []) (number_between bounds.low bounds.high) bounds.rest (length t) w

star_within : (t : Bool) (cs : List ℕ) → Within {A = List Piece} (length cs) (Some (cond t (AnyPath ∷ [], drop 1 cs) (AnyName ∷ [], cs)))
star_within true cs = drop_within 1 cs
star_within false cs = omega arith

pub piece_within : (c : ℕ) (cs : List ℕ) → Within (length cs) (piece_in c cs)
piece_within c cs =
    let self : length cs ≤ length cs = omega arith in
    let last : Option (List Piece × List ℕ) = Some (Char c ∷ [], cs) in
    let escaped = option_map (λ found. (Char found.0 ∷ [], found.1)) (after_backslash cs) in
    let bracket = bracketed cs (bounds_in 93 cs) in
    let brace = braced cs (bounds_in 125 cs) in
    let one : Option (List Piece × List ℕ) = Some (AnyChar ∷ [], cs) in
    let star : Option (List Piece × List ℕ) = Some (cond (begins_with 42 cs) (AnyPath ∷ [], drop 1 cs) (AnyName ∷ [], cs)) in
    let from_escaped = cond (eqb c 92) escaped last in
    let from_bracket = cond (eqb c 91) bracket from_escaped in
    let from_brace = cond (eqb c 123) brace from_bracket in
    let from_one = cond (eqb c 63) one from_brace in
    within_if (length cs) (eqb c 42) star from_one (star_within (begins_with 42 cs) cs)
    (within_if (length cs) (eqb c 63) one from_brace self
    (within_if (length cs) (eqb c 123) brace from_bracket (braced_within cs (bounds_in 125 cs) (bounds_within 125 cs))
    (within_if (length cs) (eqb c 91) bracket from_escaped (bracketed_within cs (bounds_in 93 cs) (bounds_within 93 cs))
    (within_if (length cs) (eqb c 92) escaped last (within_map (length cs) (λ found. Char found.0 ∷ []) (after_backslash cs) (backslash_within cs)) self))))

-- one more range, or the end of a set
ranges_at : (fuel : ℕ) (ranges : List CharRange) (text rest : List ℕ) → length rest ≤ fuel → option_map (with_front ranges) (ranges_in fuel rest) ≡ ranges_of text → RangesSoFar ranges text rest
ranges_at fuel ranges text rest le e = record { fuel = fuel; enough = le; told = e }

kept_none : (o : Option (List CharRange × List ℕ)) → option_map (with_front []) o ≡ o
kept_none None = refl
kept_none (Some found) = refl

pub ranges_none : (ranges : List CharRange) (text : List ℕ) → ranges ≡ [] → RangesSoFar ranges text text
ranges_none ranges text e =
    ranges_at (length text) ranges text text (omega arith) (rw e (kept_none (ranges_of text)))

stop_at : (fuel : ℕ) (ranges : List CharRange) (text behind : List ℕ) → suc (length behind) ≤ fuel → option_map (with_front ranges) (ranges_in fuel (125 ∷ behind)) ≡ ranges_of text → ranges_of text ≡ Some (ranges, behind)
stop_at zero ranges text behind le e = absurd (omega arith)
stop_at (suc fuel) ranges text behind le e = sym e ∙ ap (λ l. Some (l, behind)) (append-nil ranges)

pub ranges_stop : (ranges : List CharRange) (text rest behind : List ℕ) → RangesSoFar ranges text rest → rest ≡ 125 ∷ behind → ranges_of text ≡ Some (ranges, behind)
ranges_stop ranges text rest behind w e =
    stop_at w.fuel ranges text behind (omega (arith, w.enough, ap length e)) (subst (λ l. option_map (with_front ranges) (ranges_in w.fuel l) ≡ ranges_of text) e w.told)

bad_at : (fuel : ℕ) (ranges : List CharRange) (rest : List ℕ) → begins_with 125 rest ≡ false → option_and_then range_from (set_char rest) ≡ None → option_map (with_front ranges) (ranges_in fuel rest) ≡ None
bad_at zero ranges rest open_set bad = refl
bad_at (suc fuel) ranges rest open_set bad = rw (open_set, bad) refl

pub ranges_bad : (ranges : List CharRange) (text rest : List ℕ) → RangesSoFar ranges text rest → begins_with 125 rest ≡ false → option_and_then range_from (set_char rest) ≡ None → ranges_of text ≡ None
ranges_bad ranges text rest w open_set bad = sym w.told ∙ bad_at w.fuel ranges rest open_set bad

front_more : (ranges : List CharRange) (range : CharRange) (o : Option (List CharRange × List ℕ)) → option_map (with_front (ranges ++ range ∷ [])) o ≡ option_map (with_front ranges) (option_map (λ more. (range ∷ more.0, more.1)) o)
front_more ranges range None = refl
front_more ranges range (Some found) = ap (λ l. Some (l, found.1)) (append_assoc ranges (range ∷ []) found.0)

next_at : (fuel : ℕ) (ranges : List CharRange) (range : CharRange) (text rest after : List ℕ) → length rest ≤ fuel → option_map (with_front ranges) (ranges_in fuel rest) ≡ ranges_of text → begins_with 125 rest ≡ false → option_and_then range_from (set_char rest) ≡ Some (range, after) → length after ≤ length rest - 1 → 0 < length rest → RangesSoFar (ranges ++ range ∷ []) text after
next_at zero ranges range text rest after le e open_set item shorter some = absurd (omega arith)
next_at (suc fuel) ranges range text rest after le e open_set item shorter some =
    let step : ranges_in (suc fuel) rest ≡ option_map (λ more. (range ∷ more.0, more.1)) (ranges_in fuel after) = rw (open_set, item) refl in
    ranges_at fuel (ranges ++ range ∷ []) text after (omega arith) (front_more ranges range (ranges_in fuel after) ∙ ap (option_map (with_front ranges)) (sym step) ∙ e)

some_text : (rest : List ℕ) (found : CharRange × List ℕ) → option_and_then range_from (set_char rest) ≡ Some found → 0 < length rest
some_text [] found e = absurd (none_some e)
some_text (c ∷ cs) found e = omega arith

pub ranges_next : (ranges : List CharRange) (range : CharRange) (text rest after : List ℕ) → RangesSoFar ranges text rest → begins_with 125 rest ≡ false → option_and_then range_from (set_char rest) ≡ Some (range, after) → RangesSoFar (ranges ++ range ∷ []) text after
ranges_next ranges range text rest after w open_set item =
    next_at w.fuel ranges range text rest after w.enough w.told open_set item (subst (λ o. Within (length rest - 1) o) item (item_within rest)) (some_text rest _ item)

pub ranges_shorter : (rest after : List ℕ) (range : CharRange) → option_and_then range_from (set_char rest) ≡ Some (range, after) → length after < length rest
ranges_shorter rest after range item =
    let less : length after ≤ length rest - 1 = subst (λ o. Within (length rest - 1) o) item (item_within rest) in
    let some = some_text rest _ item in
    omega arith

-- more pieces, or the end of a text
same_pieces : (o : Option (List Piece)) → option_map (λ more. [] ++ more) o ≡ o
same_pieces None = refl
same_pieces (Some found) = refl

pub pieces_none : (pieces : List Piece) (text : List ℕ) → pieces ≡ [] → PiecesSoFar pieces text text
unfolding pattern_of
pieces_none pieces text e =
    record { fuel = length text; enough = omega arith; told = rw e (same_pieces (pieces_in (length text) text)) }

end_at : (fuel : ℕ) → pieces_in fuel [] ≡ Some []
end_at zero = refl
end_at (suc fuel) = refl

pub pieces_stop : (pieces : List Piece) (text rest : List ℕ) → PiecesSoFar pieces text rest → rest ≡ [] → pattern_of text ≡ Some pieces
pieces_stop pieces text rest w e =
    let at_end : pieces_in w.fuel rest ≡ Some [] = rw e (end_at w.fuel) in
    sym w.told ∙ ap (option_map (λ more. pieces ++ more)) at_end ∙ ap Some (append-nil pieces)

pieces_bad_at : (fuel : ℕ) (pieces : List Piece) (c : ℕ) (cs : List ℕ) → suc (length cs) ≤ fuel → piece_in c cs ≡ None → option_map (λ more. pieces ++ more) (pieces_in fuel (c ∷ cs)) ≡ None
pieces_bad_at zero pieces c cs le bad = absurd (omega arith)
pieces_bad_at (suc fuel) pieces c cs le bad = ap (λ o. option_map (λ more. pieces ++ more) (option_and_then (λ found. option_map (λ more. found.0 ++ more) (pieces_in fuel found.1)) o)) bad

pub pieces_bad : (pieces : List Piece) (text rest cs : List ℕ) (c : ℕ) → PiecesSoFar pieces text rest → rest ≡ c ∷ cs → piece_in c cs ≡ None → pattern_of text ≡ None
pieces_bad pieces text rest cs c w e bad =
    sym w.told ∙ ap (λ l. option_map (λ more. pieces ++ more) (pieces_in w.fuel l)) e ∙ pieces_bad_at w.fuel pieces c cs (omega (arith, w.enough, ap length e)) bad

pieces_more : (pieces found : List Piece) (o : Option (List Piece)) → option_map (λ more. (pieces ++ found) ++ more) o ≡ option_map (λ more. pieces ++ more) (option_map (λ more. found ++ more) o)
pieces_more pieces found None = refl
pieces_more pieces found (Some more) = ap Some (append_assoc pieces found more)

pieces_next_at : (fuel : ℕ) (pieces found : List Piece) (text cs after : List ℕ) (c : ℕ) → suc (length cs) ≤ fuel → option_map (λ more. pieces ++ more) (pieces_in fuel (c ∷ cs)) ≡ pattern_of text → piece_in c cs ≡ Some (found, after) → length after ≤ length cs → PiecesSoFar (pieces ++ found) text after
pieces_next_at zero pieces found text cs after c le e item shorter = absurd (omega arith)
pieces_next_at (suc fuel) pieces found text cs after c le e item shorter =
    let step : pieces_in (suc fuel) (c ∷ cs) ≡ option_map (λ more. found ++ more) (pieces_in fuel after) = ap (option_and_then (λ found. option_map (λ more. found.0 ++ more) (pieces_in fuel found.1))) item in
    record {
      fuel = fuel;
      enough = omega arith;
      told = pieces_more pieces found (pieces_in fuel after) ∙ ap (option_map (λ more. pieces ++ more)) (sym step) ∙ e;
    }

pub pieces_next : (pieces found : List Piece) (text rest cs after : List ℕ) (c : ℕ) → PiecesSoFar pieces text rest → rest ≡ c ∷ cs → piece_in c cs ≡ Some (found, after) → PiecesSoFar (pieces ++ found) text after
pieces_next pieces found text rest cs after c w e item =
    pieces_next_at w.fuel pieces found text cs after c (omega (arith, w.enough, ap length e)) (subst (λ l. option_map (λ more. pieces ++ more) (pieces_in w.fuel l) ≡ pattern_of text) e w.told) item (subst (λ o. Within (length cs) o) item (piece_within c cs))

pub pieces_shorter : (rest cs after : List ℕ) (c : ℕ) (found : List Piece) → rest ≡ c ∷ cs → piece_in c cs ≡ Some (found, after) → length after < length rest
pieces_shorter rest cs after c found e item =
    let less : length after ≤ length cs = subst (λ o. Within (length cs) o) item (piece_within c cs) in
    omega (arith, ap length e)

-- where no bounds of a number stand
pub no_bounds : (o : Option Bounds) → None ≡ option_map number_and_rest o → o ≡ None
no_bounds None e = refl
no_bounds (Some bounds) e = absurd (none_some e)

pub braced_set : (t : List ℕ) (o : Option Bounds) (piece : Piece) (rest : List ℕ) → o ≡ None → set_in t ≡ Some (piece, rest) → braced t o ≡ Some (piece ∷ [], rest)
braced_set t o piece rest e found = rw (e, found) refl

pub braced_no_set : (t : List ℕ) (o : Option Bounds) → o ≡ None → set_in t ≡ None → braced t o ≡ None
braced_no_set t o e found = rw (e, found) refl

pub kept_fault : (P Q : Type 0) (e : PatternFault) → (P → Q) → OnBadPattern P e → OnBadPattern Q e
kept_fault P Q BadPattern f h = f h
kept_fault P Q (NoMemory _) f h = tt
