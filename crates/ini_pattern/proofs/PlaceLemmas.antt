-- Pieces are cut at their stars, and what is left of them is no longer than a floor.
use Rattle.std.proofs.Common.{◌≡◌, ℕ, zero, suc, ◌+◌, ◌<◌, ◌≤◌, inl, inr, Bool, true, false, cond, Option, Some, None, List, [], ◌∷◌, ◌++◌, length, get_or, take, drop, take-suc, drop-cons, add-one, length-append, append_assoc, refl, sym, ap, subst, ◌∙◌, arith}
use Rattle.std.specs.Prelude.{MatchOption, encode_utf8_all}
use Rattle.std.specs.List.{list_all}
use Rattle.std.proofs.lemmas.Bool.{and_parts, and_from, cases_Bool, cases_lt, false≢true}
use Rattle.std.proofs.lemmas.List.{append_cancel_right}
use Rattle.std.proofs.lemmas.Str.{length-le-encodes, encodes-append}
use Rattle.ini_pattern.specs.declared.piece.Piece.{Piece}
use Rattle.ini_pattern.specs.declared.piece.Piece.TheVariants.{AnyPath, AnyName}
use Rattle.ini_pattern.specs.Matches.{has_no_dot, Covers}
use Rattle.ini_pattern.specs.Reading.{is_any_name, is_fixed, EndsWith, IsEnd, IsLongestRest, HasNoRest, IsLongestAnywhere, HasNoRestAnywhere}
use Rattle.ini_pattern.specs.Places.{stars, is_no_path, to_star, after_star, size, MayBeLeft, IsLongestWithin, HasNoneWithin, IsFloor, IsStuck}
use Rattle.ini_pattern.proofs.CoverLemmas.{cuts, covers_split, covers_end, ends_trans}
use Rattle.ini_pattern.proofs.CrossLemmas.{cross, no_dot_front}
use Rattle.ini_pattern.proofs.SteadyLemmas.{one_rest, no_dot_back}

-- a rest is no longer than another where it has no more bytes
size_parts : (z b : List ℕ) → length z + size b ≤ size (z ++ b)
size_parts z b =
    omega (arith, ap length (encodes-append z b), length-append (encode_utf8_all z) (encode_utf8_all b), length-le-encodes z)

nothing_front : (z a b : List ℕ) → length z ≤ 0 → a ≡ z ++ b → EndsWith b a
nothing_front [] a b h e = ([], sym e)
nothing_front (c ∷ z) a b h e = absurd (omega (arith, h))

pub within_ends : (name a b : List ℕ) → EndsWith name a → EndsWith name b → size a ≤ size b → EndsWith b a
within_ends name a b v w le =
    elim (cuts v.0 a w.0 b (sym v.1 ∙ w.1)) [
      | inl k ↦ nothing_front k.0 a b (omega (arith, le, size_parts k.0 b, ap size k.2)) k.2
      | inr k ↦ (k.0, k.2)
    ]

pub ends_within : (a b : List ℕ) → EndsWith b a → size a ≤ size b
ends_within a b w = omega (arith, size_parts w.0 a, ap size w.1)

-- the longest rest within the name is the longest rest
pub told_whole : {A : Type 0} (view : A → List ℕ) (ps : List Piece) (to_end : Bool) (name : List ℕ) (r : Option A) → MatchOption r (HasNoneWithin ps to_end name name) (λ x. IsLongestWithin ps to_end name name (view x)) → MatchOption r (HasNoRest ps to_end name) (λ x. IsLongestRest ps to_end name (view x))
told_whole view ps to_end name None h = λ other covers stops. h other covers (stops, ends_within other name (covers_end ps name other covers))
told_whole view ps to_end name (Some x) h = record {
  covers = h.covers;
  ends = h.may.0;
  longest = λ other covers stops. h.longest other covers (stops, ends_within other name (covers_end ps name other covers));
}

within_path : (ps : List Piece) (name from other : List ℕ) → EndsWith name from → Covers ps from other → size other ≤ size name
within_path ps name from other ends covers =
    ends_within other name (ends_trans name from other ends (covers_end ps from other covers))

-- after a `**` the pieces may begin at any end of the name
pub told_anywhere : {A : Type 0} (view : A → List ℕ) (ps : List Piece) (to_end : Bool) (name : List ℕ) (r : Option A) → MatchOption r (HasNoneWithin (AnyPath ∷ ps) to_end name name) (λ x. IsLongestWithin (AnyPath ∷ ps) to_end name name (view x)) → MatchOption r (HasNoRestAnywhere ps to_end name) (λ x. IsLongestAnywhere ps to_end name (view x))
told_anywhere view ps to_end name None h = λ from rest ends covers stops.
    h rest (ends.0, from, ends.1, tt, covers) (stops, within_path ps name from rest ends covers)
told_anywhere view ps to_end name (Some x) h =
    let k = h.covers in
    record {
      start = k.1;
      within = (k.0, k.2);
      covers = k.4;
      ends = h.may.0;
      longest = λ from other ends covers stops. h.longest other (ends.0, from, ends.1, tt, covers) (stops, within_path ps name from other ends covers);
    }

-- fixed pieces leave one rest
pub fixed_longest : (ps : List Piece) (to_end : Bool) (floor name rest : List ℕ) → list_all is_fixed ps ≡ true → Covers ps name rest → IsEnd to_end rest → size rest ≤ size floor → IsLongestWithin ps to_end floor name rest
fixed_longest ps to_end floor name rest fixed v stops short = record {
  covers = v;
  may = (stops, short);
  longest = λ other covered may. ([], one_rest ps name rest other fixed v covered);
}

pub fixed_short : (ps : List Piece) (to_end : Bool) (floor name rest : List ℕ) → list_all is_fixed ps ≡ true → Covers ps name rest → (size rest ≤ size floor → ⊥) → HasNoneWithin ps to_end floor name
fixed_short ps to_end floor name rest fixed v long other covered may =
    long (subst (λ l. size l ≤ size floor) (sym (one_rest ps name rest other fixed v covered)) may.1)

-- pieces up to the star of a number, and after it
whole_step : (n : ℕ) (p : Piece) (l : List Piece) (b : Bool) → to_star n l ++ after_star n l ≡ l → to_star (suc n) l ++ after_star (suc n) l ≡ l → (p ∷ cond b (to_star n l) (to_star (suc n) l)) ++ cond b (after_star n l) (after_star (suc n) l) ≡ p ∷ l
whole_step n p l true v w = ap (λ k. p ∷ k) v
whole_step n p l false v w = ap (λ k. p ∷ k) w

pub star_whole : (n : ℕ) (l : List Piece) → to_star n l ++ after_star n l ≡ l
star_whole zero l = refl
star_whole (suc n) [] = refl
star_whole (suc n) (p ∷ l) = whole_step n p l (is_any_name p) (star_whole n l) (star_whole (suc n) l)

abbrev CutAt : ℕ → List Piece → List Piece → Type 0
CutAt n front back =
    (to_star n (front ++ (AnyName ∷ back)) ≡ front ++ (AnyName ∷ [])) × (after_star n (front ++ (AnyName ∷ back)) ≡ back)

parts_step : (n : ℕ) (p : Piece) (front back : List Piece) (b : Bool) → is_any_name p ≡ b → (b ≡ true → CutAt n front back) → (b ≡ false → CutAt (suc n) front back) → CutAt (suc n) (p ∷ front) back
parts_step n p front back true h v w = (rw h (ap (λ k. p ∷ k) ((v refl).0)), rw h ((v refl).1))
parts_step n p front back false h v w = (rw h (ap (λ k. p ∷ k) ((w refl).0)), rw h ((w refl).1))

star_counted : (p : Piece) (l : List Piece) (b : Bool) → is_any_name p ≡ b → stars (p ∷ l) ≡ cond b 1 0 + stars l
star_counted p l b h = ap (λ t. cond t 1 0 + stars l) h

pub star_parts : (n : ℕ) (front back : List Piece) → stars front + 1 ≡ n → CutAt n front back
star_parts zero front back h = absurd (omega (arith, h))
star_parts (suc zero) [] back h = (refl, refl)
star_parts (suc (suc n)) [] back h = absurd (omega (arith, h))
star_parts (suc n) (p ∷ front) back h =
    parts_step n p front back (is_any_name p) refl
    (λ t. star_parts n front back (omega (arith, h, star_counted p front true t)))
    (λ f. star_parts (suc n) front back (omega (arith, h, star_counted p front false f)))

none_step : (n : ℕ) (p : Piece) (l : List Piece) (b : Bool) → is_any_name p ≡ b → (b ≡ true → (to_star n l ≡ l) × (after_star n l ≡ [])) → (b ≡ false → (to_star (suc n) l ≡ l) × (after_star (suc n) l ≡ [])) → (to_star (suc n) (p ∷ l) ≡ p ∷ l) × (after_star (suc n) (p ∷ l) ≡ [])
none_step n p l true h v w = (rw h (ap (λ k. p ∷ k) ((v refl).0)), rw h ((v refl).1))
none_step n p l false h v w = (rw h (ap (λ k. p ∷ k) ((w refl).0)), rw h ((w refl).1))

pub star_none : (n : ℕ) (l : List Piece) → stars l < n → (to_star n l ≡ l) × (after_star n l ≡ [])
star_none zero l h = absurd (omega (arith, h))
star_none (suc n) [] h = (refl, refl)
star_none (suc n) (p ∷ l) h =
    none_step n p l (is_any_name p) refl
    (λ t. star_none n l (omega (arith, h, star_counted p l true t)))
    (λ f. star_none (suc n) l (omega (arith, h, star_counted p l false f)))

pub stars_append : (front back : List Piece) → stars (front ++ back) ≡ stars front + stars back
stars_append [] back = omega arith
stars_append (p ∷ front) back = omega (arith, stars_append front back)

pub paths_front : (front back : List Piece) → list_all is_no_path (front ++ back) ≡ true → list_all is_no_path front ≡ true
paths_front [] back h = refl
paths_front (p ∷ front) back h =
    let parts = and_parts (is_no_path p) (list_all is_no_path (front ++ back)) h in
    and_from _ _ parts.0 (paths_front front back parts.1)

pub paths_back : (front back : List Piece) → list_all is_no_path (front ++ back) ≡ true → list_all is_no_path back ≡ true
paths_back [] back h = h
paths_back (p ∷ front) back h = paths_back front back ((and_parts (is_no_path p) (list_all is_no_path (front ++ back)) h).1)

pub paths_after : (n : ℕ) (l : List Piece) → list_all is_no_path l ≡ true → list_all is_no_path (after_star n l) ≡ true
paths_after n l h =
    paths_back (to_star n l) (after_star n l) (subst (λ k. list_all is_no_path k ≡ true) (sym (star_whole n l)) h)

pub no_stars_fixed : (ps : List Piece) → list_all is_no_path ps ≡ true → stars ps ≡ 0 → list_all is_fixed ps ≡ true
no_stars_fixed [] s n = refl
no_stars_fixed (p ∷ ps) s n =
    let open_way = and_parts (is_no_path p) (list_all is_no_path ps) s in
    elim (cases_Bool (is_any_name p)) [
      | inl t ↦ absurd (omega (arith, n, star_counted p ps true t))
      | inr f ↦ and_from _ _ (and_from _ _ open_way.0 (rw f refl)) (no_stars_fixed ps open_way.1 (omega (arith, n, star_counted p ps false f)))
    ]

-- a rest that is longer than the floor: a star after it cannot get to the floor
pub floor_ends : (name floor : List ℕ) → IsFloor name floor → EndsWith name floor
floor_ends name floor (inl e) = ([], e)
floor_ends name floor (inr (f, e)) = (f ++ 46 ∷ [], e ∙ sym (append_assoc f (46 ∷ []) floor))

last_dot : (w z : List ℕ) → 46 ∷ [] ≡ w ++ z → has_no_dot z ≡ true → z ≡ []
last_dot [] z e h = absurd (false≢true (subst (λ l. has_no_dot l ≡ true) (sym e) h))
last_dot (c ∷ []) z e h = cc
last_dot (c ∷ d ∷ w) z e h = absurd cc

dot_back : (f g z : List ℕ) → f ++ 46 ∷ [] ≡ g ++ z → has_no_dot z ≡ true → z ≡ []
dot_back f g z e h =
    elim (cuts f (46 ∷ []) g z e) [
      | inl w ↦ last_dot w.0 z w.2 h
      | inr w ↦ absurd (false≢true (no_dot_back w.0 (46 ∷ []) (subst (λ l. has_no_dot l ≡ true) w.2 h)))
    ]

short_of : (f g floor rest next z : List ℕ) → f ++ 46 ∷ [] ≡ g ++ z → rest ≡ z ++ floor → (EndsWith floor rest → ⊥) → Covers (AnyName ∷ []) rest next → EndsWith floor next → ⊥
short_of f g floor rest next z e over apart v ends =
    let taken : v.0 ≡ z ++ ends.0 =
    append_cancel_right v.0 (z ++ ends.0) next (ap (λ l. v.0 ++ l) (sym v.4) ∙ sym v.2 ∙ over ∙ ap (λ l. z ++ l) ends.1 ∙ sym (append_assoc z ends.0 next)) in
    let clear = no_dot_front z ends.0 (subst (λ l. has_no_dot l ≡ true) taken v.3) in
    let nothing = dot_back f g z e clear in
    apart ([], sym (over ∙ ap (λ l. l ++ floor) nothing))

floor_passed : (name floor rest next : List ℕ) → EndsWith name rest → IsFloor name floor → (EndsWith floor rest → ⊥) → Covers (AnyName ∷ []) rest next → EndsWith floor next → ⊥
floor_passed name floor rest next w (inl e) apart v ends = apart (subst (λ l. EndsWith l rest) e w)
floor_passed name floor rest next w (inr (f, e)) apart v ends =
    elim (cuts (f ++ 46 ∷ []) floor w.0 rest (append_assoc f (46 ∷ []) floor ∙ sym e ∙ w.1)) [
      | inl k ↦ apart (k.0, k.2)
      | inr k ↦ short_of f w.0 floor rest next k.0 k.1 k.2 apart v ends
    ]

pub floor_met : (name floor rest next : List ℕ) → EndsWith name rest → IsFloor name floor → Covers (AnyName ∷ []) rest next → EndsWith floor next → size rest ≤ size floor
floor_met name floor rest next w under v ends =
    elim (cases_lt (size floor) (size rest)) [
      | inl lt ↦ absurd (floor_passed name floor rest next w under (λ over. omega (arith, lt, ends_within rest floor over)) v ends)
      | inr le ↦ le
    ]

-- where the pieces leave nothing
pub stuck_last : (n : ℕ) (left : List Piece) (to_end : Bool) (here next floor : List ℕ) → stars left < n → HasNoneWithin left to_end floor here → IsStuck n left to_end here next floor
stuck_last n left to_end here next floor few none name target rest within under v w may over =
    let parts = star_none n left few in
    let same : target ≡ rest = subst (λ l. Covers l target rest) parts.1 w in
    none rest (subst (λ l. Covers left here l) same (subst (λ l. Covers l here target) parts.0 v)) may

pub stuck_next : (n : ℕ) (left front back : List Piece) (to_end : Bool) (here next floor : List ℕ) → stars front + 1 ≡ n → left ≡ front ++ (AnyName ∷ back) → HasNoneWithin front false next here → IsStuck n left to_end here next floor
stuck_next n left front back to_end here next floor count e none name target rest within under v w may over =
    let parts = covers_split front (AnyName ∷ []) here target (subst (λ l. Covers l here target) (ap (to_star n) e ∙ (star_parts n front back count).0) v) in
    let ends = ends_trans name here parts.0 within (covers_end front here parts.0 parts.1) in
    none parts.0 parts.1 (tt, floor_met name next parts.0 target ends under parts.2 over)

-- one that begins later leaves no longer rest
pub longest_later : (ps : List Piece) (to_end : Bool) (floor here s rest other : List ℕ) → IsLongestWithin ps to_end floor here rest → EndsWith here s → Covers ps s other → MayBeLeft to_end floor other → EndsWith rest other
longest_later ps to_end floor here s rest other found ends v may =
    elim (cross ps here s rest other ends found.covers v) [
      | inl over ↦ over
      | inr again ↦ found.longest other again may
    ]

-- one more piece is counted
take-suc-is : (l : List Piece) (at : ℕ) (p : Piece) → p ≡ get_or l at p → at < length l → take (at + 1) l ≡ take at l ++ p ∷ []
take-suc-is l at p e room = ap (λ k. take k l) (add-one at) ∙ take-suc l at p room ∙ ap (λ q. take at l ++ q ∷ []) (sym e)

drop-suc-is : (l : List Piece) (at : ℕ) (p : Piece) → p ≡ get_or l at p → at < length l → drop at l ≡ p ∷ drop (at + 1) l
drop-suc-is l at p e room = drop-cons l at p room ∙ ap (λ q. q ∷ drop (suc at) l) (sym e) ∙ ap (λ k. p ∷ drop k l) (sym (add-one at))

pub star_one : (p : Piece) (b : Bool) → is_any_name p ≡ b → stars (p ∷ []) ≡ cond b 1 0
star_one p b h = ap (λ t. cond t 1 0 + 0) h ∙ omega arith

pub stars_taken : (l : List Piece) (at count number count' : ℕ) (p : Piece) (b : Bool) → p ≡ get_or l at p → at < length l → is_any_name p ≡ b → count' ≡ count + cond b 1 0 → count' < number → stars (take at l) ≡ count → count + stars (drop at l) ≡ stars l → (count' < number) × (stars (take (at + 1) l) ≡ count') × (count' + stars (drop (at + 1) l) ≡ stars l)
stars_taken l at count number count' p b e room h more less taken left =
    let front : take (at + 1) l ≡ take at l ++ p ∷ [] = take-suc-is l at p e room in
    let back : drop at l ≡ p ∷ drop (at + 1) l = drop-suc-is l at p e room in (
      less,
      omega (arith, ap stars front, stars_append (take at l) (p ∷ []), star_one p b h, taken, more),
      omega (arith, ap stars back, star_counted p (drop (at + 1) l) b h, left, more),
    )
