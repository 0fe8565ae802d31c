-- Line feeds among bytes.
use Rattle.std.proofs.Common.{◌≡◌, ℕ, zero, suc, ◌+◌, ◌-◌, ◌<◌, ◌≤◌, Bool, true, false, cond, ◌||◌, ltb, Some, None, List, [], ◌∷◌, ◌++◌, length, take, drop, refl, sym, ap, ◌∙◌, subst, arith, append_assoc, length-append, length-take}
use Rattle.std.specs.List.{position, position_or_len}
use Rattle.std.proofs.lemmas.Bool.{eqb-true}
use Rattle.std.proofs.lemmas.List.{take-append-drop, get_or-take, get_or-append-add, length-take-le}
use Rattle.std.proofs.lemmas.List.Folds.{list_any_none, list_any-append}
use Rattle.std.proofs.lemmas.List.Quantifiers.{position-Some}
use Rattle.std.proofs.lemmas.List.Sums.{fails_before_first}
use Rattle.std.proofs.lemmas.Bool.Decides.{nat_tests}
use Rattle.std.proofs.Math.Seq.{take-append-add, drop-append-add}
use Rattle.input_lines.specs.Feeds.{is_feed, has_feed, IsFirstFeed}

second_false : (a b : Bool) → (a || b) ≡ false → b ≡ false
second_false true b e = cc
second_false false b e = e

no_condition : {X : Type 0} (b : Bool) (x : X) → cond b (Some x) None ≡ None → b ≡ false
no_condition true x e = cc
no_condition false x e = refl

-- where none is found, none is there
pub clear-None : (bytes : List ℕ) → position is_feed bytes ≡ None → has_feed bytes ≡ false
clear-None bytes none =
    let past : ltb (position_or_len is_feed bytes) (length bytes) ≡ false = no_condition _ (position_or_len is_feed bytes) none in
    let behind : length bytes ≤ position_or_len is_feed bytes = grind (arith, nat_tests) in
    list_any_none is_feed bytes (λ k d lt. fails_before_first is_feed bytes k d (omega arith))

-- no line feed stands among two parts where none stands in either
pub clear-append : (xs ys : List ℕ) → has_feed xs ≡ false → has_feed ys ≡ false → has_feed (xs ++ ys) ≡ false
clear-append xs ys x y = rw (list_any-append, x, y) refl

-- nor in the second part where none stands in both
pub clear-second : (xs ys : List ℕ) → has_feed (xs ++ ys) ≡ false → has_feed ys ≡ false
clear-second xs ys none = second_false (has_feed xs) (has_feed ys) (sym (list_any-append is_feed xs ys) ∙ none)

-- where one is found it is the first
pub first-Some : (bytes : List ℕ) (place : ℕ) → position is_feed bytes ≡ Some place → IsFirstFeed bytes place
first-Some bytes place found =
    let all = position-Some is_feed bytes place 0 found in
    record {
      within = all.0;
      before = list_any_none is_feed (take place bytes) (λ k d lt.
          let below : k < place = omega (arith, length-take place bytes) in
          rw get_or-take ((position-Some is_feed bytes place d found).2 k below));
      is = eqb-true _ _ all.1;
    }

-- the first one of a part is the first one after a front that has none
pub first-append : (xs ys : List ℕ) (place : ℕ) → has_feed xs ≡ false → IsFirstFeed ys place → IsFirstFeed (xs ++ ys) (length xs + place)
first-append xs ys place none first = record {
  within = omega (arith, length-append xs ys, first.within);
  before = rw take-append-add (clear-append xs (take place ys) none first.before);
  is = get_or-append-add xs ys place 0 ∙ first.is;
}

-- after a front that has none, one that stands past so many bytes is not in what they leave out
clear-front : (front rest : List ℕ) (n : ℕ) → has_feed (take n (front ++ rest)) ≡ false → has_feed (take (n - length front) rest) ≡ false
clear-front [] rest n none = let e : n - 0 ≡ n = omega arith in rw e none
clear-front (x ∷ xs) rest zero none = let e : 0 - length (x ∷ xs) ≡ 0 = omega arith in rw e refl
clear-front (x ∷ xs) rest (suc n) none =
    let e : suc n - length (x ∷ xs) ≡ n - length xs = omega arith in
    rw e (clear-front xs rest n (second_false (is_feed x) _ none))

-- the bytes in front of the place from which on is searched have none
searched_front : (thrown held : List ℕ) (searched from : ℕ) → has_feed thrown ≡ false → has_feed (take searched (thrown ++ held)) ≡ false
    → from ≡ searched - length thrown → has_feed (thrown ++ take from held) ≡ false
searched_front thrown held searched from none clear e =
    clear-append thrown (take from held) none (rw e (clear-front thrown held searched clear))

whole : (thrown held : List ℕ) (from : ℕ) → (thrown ++ take from held) ++ drop from held ≡ thrown ++ held
whole thrown held from = append_assoc thrown (take from held) (drop from held) ∙ ap (λ r. thrown ++ r) (take-append-drop from held)

-- what is found in a part that was not searched yet is the first of all
pub found : (thrown held bytes : List ℕ) (n searched from at : ℕ) → thrown ++ held ≡ bytes → length thrown ≡ n → has_feed thrown ≡ false
    → has_feed (take searched bytes) ≡ false → from ≡ searched - n → from ≤ length held
    → position is_feed (drop from held) ≡ Some at → IsFirstFeed bytes (n + from + at)
found thrown held bytes n searched from at all count none clear e within is =
    let e' : from ≡ searched - length thrown = omega arith in
    let front : has_feed (thrown ++ take from held) ≡ false =
    searched_front thrown held searched from none (rw all clear) e' in
    let first = first-append (thrown ++ take from held) (drop from held) at front (first-Some (drop from held) at is) in
    let long : length (thrown ++ take from held) ≡ n + from =
    length-append thrown (take from held) ∙ omega (arith, count, length-take-le from held within) in
    subst (λ b. IsFirstFeed b (n + from + at)) (whole thrown held from ∙ all)
    (subst (λ m. IsFirstFeed ((thrown ++ take from held) ++ drop from held) (m + at)) long first)

-- and where nothing is found in it there is none
pub unfound : (thrown held bytes : List ℕ) (n searched from : ℕ) → thrown ++ held ≡ bytes → length thrown ≡ n → has_feed thrown ≡ false
    → has_feed (take searched bytes) ≡ false → from ≡ searched - n
    → position is_feed (drop from held) ≡ None → has_feed bytes ≡ false
unfound thrown held bytes n searched from all count none clear e is =
    let e' : from ≡ searched - length thrown = omega arith in
    let front : has_feed (thrown ++ take from held) ≡ false =
    searched_front thrown held searched from none (rw all clear) e' in
    subst (λ b. has_feed b ≡ false) (whole thrown held from ∙ all)
    (clear-append (thrown ++ take from held) (drop from held) front (clear-None (drop from held) is))

-- what is left after a front that was thrown away, and more
pub drop_behind : (thrown held bytes : List ℕ) (n count : ℕ) → thrown ++ held ≡ bytes → length thrown ≡ n → n ≤ count
    → drop (count - n) held ≡ drop count bytes
drop_behind thrown held bytes n count all long le =
    let e : count ≡ length thrown + (count - n) = omega arith in
    sym (drop-append-add thrown held (count - n)) ∙ ap (λ m. drop m (thrown ++ held)) (sym e) ∙ ap (λ b. drop count b) all
