-- Where all lists stand in one of them, in its order, that one is their merge.
use Rattle.std.proofs.Common.{◌≡◌, ◌≢◌, ◌⊎◌, inl, inr, ℕ, zero, suc, ◌+◌, ◌<◌, ◌≤◌, ◌==◌, ◌&&◌, ◌||◌, Bool, true, false, List, [], ◌∷◌, ◌++◌, map, drop, take, get_or, set, ◌-◌, length, Some, refl, sym, ap, subst, ◌∙◌, arith, eqb-true, eq-eqb, if◌then◌else◌}
use Rattle.std.specs.List.{All, Contains, list_all}
use Rattle.std.proofs.lemmas.Bool.{cases_Bool, cases_eq, false≢true}
use Rattle.std.proofs.lemmas.List.{drop_all, drop_more, take_all, take_more, length-set, get_or-set_same, get_or-set_other}
use Rattle.std.proofs.lemmas.List.Elements.{All-cons, All-nil}
use Rattle.ini_trees.specs.declared.lines.IniLine.{IniLine}
use Rattle.ini_trees.specs.Counts.{one_where, same_number, HoldsZeros}
use Rattle.ini_trees.specs.Merge.{tail, stands_in, stands_behind, first_free, without_head, without, IsMerge}
use Rattle.ini_trees.specs.Numbers.{name_at}
use Rattle.ini_trees.specs.Numbered.{line_at, IsNumberLine}
use Rattle.ini_trees.specs.Parts.{is_alone, is_nil, is_part, CountsOnly, StandOnce, IsFirstOnce}
use Rattle.ini_trees.specs.Words.{Bytes}
use Rattle.ini_trees.proofs.NumberedLaws.{HaveLines, have_first}
use Rattle.ini_trees.proofs.OnceLaws.{Has, AreOnce, line_once}

-- ---- parts

pub nothing_is_part : (whole : List ℕ) → is_part [] whole ≡ true
nothing_is_part [] = refl
nothing_is_part (x ∷ xs) = nothing_is_part xs

pub nil_where_passed : (i : ℕ) (l : List ℕ) → i ≤ length l → (i == length l) ≡ is_nil (drop i l)
nil_where_passed i l le =
    elim (cases_eq i (length l)) [
      | inl e ↦ eq-eqb i (length l) e ∙ sym (ap is_nil (drop_all i l (omega arith)))
      | inr apart ↦ other i (length l) apart ∙ sym (some_left i l (omega arith))
    ]
  where
    other : (m n : ℕ) → m ≢ n → (m == n) ≡ false
    other m n apart = elim (cases_Bool (m == n)) [
      | inl t ↦ absurd (apart (eqb-true m n t))
      | inr e ↦ e
    ]

    some_left : (i : ℕ) (l : List ℕ) → i < length l → is_nil (drop i l) ≡ false
    some_left i l h = ap is_nil (drop_more l i 0 h)

or_true : (a b : Bool) → b ≡ true → (a || b) ≡ true
or_true true b h = refl
or_true false b h = h

or_none : (a b : Bool) → a ≡ false → b ≡ false → (a || b) ≡ false
or_none a b e f = rw e f

or_left : (a b : Bool) → (a || b) ≡ false → a ≡ false
or_left true b h = h
or_left false b h = refl

or_right : (a b : Bool) → (a || b) ≡ false → b ≡ false
or_right true b h = absurd (false≢true (sym h))
or_right false b h = h

-- what does not stand in a list stands in none of its parts
part_has_none : (x : ℕ) (part whole : List ℕ) → is_part part whole ≡ true → stands_in same_number x whole ≡ false → stands_in same_number x part ≡ false
part_has_none x [] whole is none = refl
part_has_none x (p ∷ ps) [] is none = absurd (false≢true is)
part_has_none x (p ∷ ps) (y ∷ ys) is none = go (p == y) refl is (λ part h. part_has_none x part ys h (or_right (y == x) (stands_in same_number x ys) none))
  where
    go : (b : Bool) → (p == y) ≡ b → is_part (if b then ps else p ∷ ps) ys ≡ true → ((part : List ℕ) → is_part part ys ≡ true → stands_in same_number x part ≡ false) → stands_in same_number x (p ∷ ps) ≡ false
    go true e is later =
        let same : p ≡ y = eqb-true p y e in
        let here : (p == x) ≡ false = ap (λ (n : ℕ). n == x) same ∙ or_left (y == x) (stands_in same_number x ys) none in
        or_none (p == x) (stands_in same_number x ps) here (later ps is)
    go false e is later = later (p ∷ ps) is

-- the first number of a list stands in the tail of none of its parts
tail_has_none : (x : ℕ) (part xs : List ℕ) → is_part part (x ∷ xs) ≡ true → stands_in same_number x xs ≡ false → stands_in same_number x (tail part) ≡ false
tail_has_none x [] xs is none = refl
tail_has_none x (p ∷ ps) xs is none = go (p == x) is
  where
    go : (b : Bool) → is_part (if b then ps else p ∷ ps) xs ≡ true → stands_in same_number x ps ≡ false
    go true is = part_has_none x ps xs is none
    go false is = or_right (p == x) (stands_in same_number x ps) (part_has_none x (p ∷ ps) xs is none)

-- ---- the merge of parts

-- each of these lists is a part of that one
abbrev pub ArePartsOf : List ℕ → List (List ℕ) → Type 0
ArePartsOf whole [] = Unit {0}
ArePartsOf whole (l ∷ ls) = (is_part l whole ≡ true) × ArePartsOf whole ls

-- one of these lists is that one
abbrev pub IsAmong : List ℕ → List (List ℕ) → Type 0
IsAmong whole [] = ⊥
IsAmong whole (l ∷ ls) = (l ≡ whole) ⊎ IsAmong whole ls

tails_have_none : (x : ℕ) (xs : List ℕ) (ls : List (List ℕ)) → ArePartsOf (x ∷ xs) ls → stands_in same_number x xs ≡ false → stands_behind same_number x ls ≡ false
tails_have_none x xs [] are none = refl
tails_have_none x xs (l ∷ ls) are none = or_none (stands_in same_number x (tail l)) (stands_behind same_number x ls) (tail_has_none x l xs are.0 none) (tails_have_none x xs ls are.1 none)

still_parts : (x : ℕ) (xs : List ℕ) (ls : List (List ℕ)) → ArePartsOf (x ∷ xs) ls → ArePartsOf xs (without same_number x ls)
still_parts x xs [] are = tt
still_parts x xs (l ∷ ls) are = (are.0, still_parts x xs ls are.1)

all_empty : (ls : List (List ℕ)) → ArePartsOf [] ls → All (λ l. l ≡ []) ls
all_empty [] are = All-nil (λ l. l ≡ [])
all_empty ([] ∷ ls) are = All-cons (λ l. l ≡ []) [] ls refl (all_empty ls are.1)
all_empty ((x ∷ xs) ∷ ls) are = absurd (false≢true are.0)

own_head : (x : ℕ) (xs : List ℕ) → without_head same_number x (x ∷ xs) ≡ xs
own_head x xs = rw (eq-eqb x x refl) refl

self_part : (whole : List ℕ) → is_part whole whole ≡ true
self_part [] = refl
self_part (x ∷ xs) = ap (λ (l : List ℕ). is_part l xs) (own_head x xs) ∙ self_part xs

still_among : (x : ℕ) (xs : List ℕ) (ls : List (List ℕ)) → IsAmong (x ∷ xs) ls → IsAmong xs (without same_number x ls)
still_among x xs [] h = h
still_among x xs (l ∷ ls) (inl e) = inl (ap (without_head same_number x) e ∙ own_head x xs)
still_among x xs (l ∷ ls) (inr h) = inr (still_among x xs ls h)

-- what stands in the tail of one of the lists stands after
stands_behind_one : (p x : ℕ) (xs : List ℕ) (ls : List (List ℕ)) → IsAmong (x ∷ xs) ls → stands_in same_number p xs ≡ true → stands_behind same_number p ls ≡ true
stands_behind_one p x xs [] h is = absurd h
stands_behind_one p x xs (l ∷ ls) (inl e) is =
    let here : stands_in same_number p (tail l) ≡ true = ap (λ (m : List ℕ). stands_in same_number p (tail m)) e ∙ is in
    rw here refl
stands_behind_one p x xs (l ∷ ls) (inr h) is = or_true (stands_in same_number p (tail l)) (stands_behind same_number p ls) (stands_behind_one p x xs ls h is)

-- the head of a part stands in the list
head_stands : (p : ℕ) (ps whole : List ℕ) → is_part (p ∷ ps) whole ≡ true → stands_in same_number p whole ≡ true
head_stands p ps [] is = absurd (false≢true is)
head_stands p ps (y ∷ ys) is = go (p == y) refl is (head_stands p ps ys)
  where
    go : (b : Bool) → (p == y) ≡ b → is_part (if b then ps else p ∷ ps) ys ≡ true → (is_part (p ∷ ps) ys ≡ true → stands_in same_number p ys ≡ true) → ((y == p) || stands_in same_number p ys) ≡ true
    go true e is later = rw (eq-eqb y p (sym (eqb-true p y e))) refl
    go false e is later = or_true (y == p) (stands_in same_number p ys) (later is)

-- the head of the list is the first that stands in no tail
free_head : (x : ℕ) (xs : List ℕ) (all ls : List (List ℕ)) → stands_behind same_number x all ≡ false → ((p : ℕ) → stands_in same_number p xs ≡ true → stands_behind same_number p all ≡ true) → ArePartsOf (x ∷ xs) ls → IsAmong (x ∷ xs) ls → first_free same_number all ls ≡ Some x
free_head x xs all [] none some are h = absurd h
free_head x xs all ([] ∷ ls) none some are (inl e) = absurd cc
free_head x xs all ([] ∷ ls) none some are (inr h) = free_head x xs all ls none some are.1 h
free_head x xs all ((p ∷ ps) ∷ ls) none some are h = go (p == x) refl are.0 h (λ k. free_head x xs all ls none some are.1 k)
  where
    go : (b : Bool) → (p == x) ≡ b → is_part (if b then ps else p ∷ ps) xs ≡ true → (p ∷ ps ≡ x ∷ xs) ⊎ IsAmong (x ∷ xs) ls → (IsAmong (x ∷ xs) ls → first_free same_number all ls ≡ Some x) → (if stands_behind same_number p all then first_free same_number all ls else Some p) ≡ Some x
    go true e is h later =
        let same : p ≡ x = eqb-true p x e in
        let free : stands_behind same_number p all ≡ false = ap (λ (n : ℕ). stands_behind same_number n all) same ∙ none in
        rw free (ap (λ (n : ℕ). Some n) same)
    go false e is (inl same) later = absurd (let heads : p ≡ x = cc in false≢true (sym e ∙ eq-eqb p x heads))
    go false e is (inr h) later =
        let blocked : stands_behind same_number p all ≡ true = some p (head_stands p ps xs is) in
        rw blocked (later h)

-- one of the lists is the merge of all where they are its parts
pub whole_is_merge : (whole : List ℕ) (ls : List (List ℕ)) → StandOnce whole → ArePartsOf whole ls → IsAmong whole ls → IsMerge same_number ls whole
whole_is_merge [] ls once are h = all_empty ls are
whole_is_merge (x ∷ xs) ls once are h =
    let free = free_head x xs ls ls (tails_have_none x xs ls are once.0) (λ p is. stands_behind_one p x xs ls h is) are h in
    (free, whole_is_merge xs (without same_number x ls) once.1 (still_parts x xs ls are) (still_among x xs ls h))

-- ---- the lines of sections

and_left : (a b : Bool) → (a && b) ≡ true → a ≡ true
and_left true b h = refl
and_left false b h = h

and_right : (a b : Bool) → (a && b) ≡ true → b ≡ true
and_right true b h = h
and_right false b h = absurd (false≢true h)

parts_of : (lines : List (List ℕ)) (whole row others : List ℕ) → list_all (λ b. is_part (line_at lines b) whole) others ≡ true → is_part row whole ≡ true → ArePartsOf whole (map (line_at lines) others ++ row ∷ [])
parts_of lines whole row [] are is = (is, tt)
parts_of lines whole row (b ∷ bs) are is =
    let test = is_part (line_at lines b) whole in
    let rest = list_all (λ b. is_part (line_at lines b) whole) bs in
    (and_left test rest are, parts_of lines whole row bs (and_right test rest are) is)

pub first_is_merge : (lines : List (List ℕ)) (first : ℕ) (others : List ℕ) → StandOnce (line_at lines first) → is_part (first ∷ others) (line_at lines first) ≡ true → list_all (λ b. is_part (line_at lines b) (line_at lines first)) others ≡ true → IsMerge same_number (map (line_at lines) (first ∷ others) ++ (first ∷ others) ∷ []) (line_at lines first)
first_is_merge lines first others once is are =
    whole_is_merge (line_at lines first) (map (line_at lines) (first ∷ others) ++ (first ∷ others) ∷ []) once
    (self_part (line_at lines first), parts_of lines (line_at lines first) (first ∷ others) others are is)
    (inl refl)

-- the same of a row, and of what is known to be the line of its first
pub row_is_merge : (lines : List (List ℕ)) (numbers whole : List ℕ) → 1 ≤ length numbers → IsFirstOnce lines numbers → whole ≡ line_at lines (get_or numbers 0 0) → is_part numbers whole ≡ true → list_all (λ b. is_part (line_at lines b) whole) (take (length numbers - 1) (drop 1 numbers)) ≡ true → IsMerge same_number (map (line_at lines) numbers ++ numbers ∷ []) whole
row_is_merge lines [] whole some once at is are = absurd (omega arith)
row_is_merge lines (first ∷ others) whole some once at is are =
    let held : is_part (first ∷ others) (line_at lines first) ≡ true = subst (λ (w : List ℕ). is_part (first ∷ others) w ≡ true) at is in
    let behind : take (length (first ∷ others) - 1) others ≡ others = take_all (length (first ∷ others) - 1) others (omega arith) in
    let here : list_all (λ b. is_part (line_at lines b) whole) others ≡ true = subst (λ (l : List ℕ). list_all (λ b. is_part (line_at lines b) whole) l ≡ true) behind are in
    let all : list_all (λ b. is_part (line_at lines b) (line_at lines first)) others ≡ true = subst (λ (w : List ℕ). list_all (λ b. is_part (line_at lines b) w) others ≡ true) at here in
    subst (IsMerge same_number (map (line_at lines) (first ∷ others) ++ (first ∷ others) ∷ [])) (sym at) (first_is_merge lines first others once held all)

-- ---- sections that stand alone in their lines

alone_is : (b : ℕ) (l : List ℕ) → is_alone b l ≡ true → l ≡ b ∷ []
alone_is b [] h = absurd (false≢true h)
alone_is b (x ∷ []) h =
    let same : x ≡ b = eqb-true x b (and_left (x == b) true h) in
    ap (λ (n : ℕ). n ∷ []) same
alone_is b (x ∷ y ∷ ys) h = absurd (false≢true (and_right (x == b) false h))

or_second : (a c : Bool) → a ≡ false → (a || c) ≡ true → c ≡ true
or_second true c f h = absurd (false≢true (sym f))
or_second false c f h = h

one_is_part : (b : ℕ) (whole : List ℕ) → stands_in same_number b whole ≡ true → is_part (b ∷ []) whole ≡ true
one_is_part b [] h = absurd (false≢true h)
one_is_part b (y ∷ ys) h = go (b == y) refl (one_is_part b ys)
  where
    go : (c : Bool) → (b == y) ≡ c → (stands_in same_number b ys ≡ true → is_part (b ∷ []) ys ≡ true) → is_part (if c then [] else b ∷ []) ys ≡ true
    go true e later = nothing_is_part ys
    go false e later =
        elim (cases_Bool (y == b)) [
          | inl t ↦ absurd (false≢true (sym e ∙ eq-eqb b y (sym (eqb-true y b t))))
          | inr f ↦ later (or_second (y == b) (stands_in same_number b ys) f h)
        ]

stands_first : (x : ℕ) (xs : List ℕ) → stands_in same_number x (x ∷ xs) ≡ true
stands_first x xs = rw (eq-eqb x x refl) refl

-- the lines of these sections, each of which has the section alone, are parts of a list that has
-- them
alone_parts : (lines : List (List ℕ)) (whole row : List ℕ) → list_all (λ b. is_alone b (line_at lines b)) row ≡ true → ((b : ℕ) → stands_in same_number b row ≡ true → stands_in same_number b whole ≡ true) → is_part whole whole ≡ true → ArePartsOf whole (map (line_at lines) row ++ whole ∷ [])
alone_parts lines whole [] are held self = (self, tt)
alone_parts lines whole (b ∷ bs) are held self =
    let test = is_alone b (line_at lines b) in
    let rest = list_all (λ b. is_alone b (line_at lines b)) bs in
    let line : line_at lines b ≡ b ∷ [] = alone_is b (line_at lines b) (and_left test rest are) in
    let part : is_part (b ∷ []) whole ≡ true = one_is_part b whole (held b (stands_first b bs)) in (
      ap (λ (l : List ℕ). is_part l whole) line ∙ part,
      alone_parts lines whole bs (and_right test rest are) (λ k h. held k (or_true (b == k) (stands_in same_number k bs) h)) self,
    )

last_among : (ls : List (List ℕ)) (l : List ℕ) → IsAmong l (ls ++ l ∷ [])
last_among [] l = inl refl
last_among (m ∷ ls) l = inr (last_among ls l)

-- where each section stands alone in its line, and once in the list of them, that list is their
-- merge
pub alone_is_merge : (lines : List (List ℕ)) (row : List ℕ) → StandOnce row → list_all (λ b. is_alone b (line_at lines b)) row ≡ true → IsMerge same_number (map (line_at lines) row ++ row ∷ []) row
alone_is_merge lines row once are =
    whole_is_merge row (map (line_at lines) row ++ row ∷ []) once (alone_parts lines row row are (λ b h. h) (self_part row)) (last_among (map (line_at lines) row) row)

-- ---- counts

-- for each number whether the list has it
abbrev pub Marks : List ℕ → List ℕ → Type 0
Marks waiting l = (k : ℕ) → k < length waiting → get_or waiting k 0 ≡ one_where (stands_in same_number k l)

stands_push : (k x : ℕ) (l : List ℕ) → stands_in same_number k (l ++ x ∷ []) ≡ (stands_in same_number k l || (x == k))
stands_push k x [] = or_false (x == k)
  where
    or_false : (b : Bool) → (b || false) ≡ b
    or_false true = refl
    or_false false = refl
stands_push k x (y ∷ ys) = ap (λ (b : Bool). (y == k) || b) (stands_push k x ys) ∙ sym (grouped (y == k) (stands_in same_number k ys) (x == k))
  where
    grouped : (a b c : Bool) → ((a || b) || c) ≡ (a || (b || c))
    grouped true b c = refl
    grouped false b c = refl

once_push : (l : List ℕ) (x : ℕ) → StandOnce l → stands_in same_number x l ≡ false → StandOnce (l ++ x ∷ [])
once_push [] x once none = (refl, tt)
once_push (y ∷ ys) x once none =
    let other : (x == y) ≡ false =
    elim (cases_Bool (x == y)) [
      | inl t ↦ absurd (false≢true (sym (or_left (y == x) (stands_in same_number x ys) none) ∙ eq-eqb y x (sym (eqb-true x y t))))
      | inr f ↦ f
    ] in
    (stands_push y x ys ∙ or_none (stands_in same_number y ys) (x == y) once.0 other, once_push ys x once.1 (or_right (y == x) (stands_in same_number x ys) none))

none_marked : (b : Bool) → one_where b ≡ 0 → b ≡ false
none_marked true h = absurd (omega (arith, h))
none_marked false h = refl

pub once_more : (row waiting : List ℕ) (i : ℕ) → i < length row → get_or row i 0 < length waiting → Marks waiting (take i row) → get_or waiting (get_or row i 0) 0 ≡ 0 → StandOnce (take i row) → StandOnce (take (i + 1) row)
once_more row waiting i h below marks unmarked once =
    let x = get_or row i 0 in
    let none = none_marked (stands_in same_number x (take i row)) (sym (marks x below) ∙ unmarked) in
    subst StandOnce (sym (take_more row i 0 h)) (once_push (take i row) x once none)

pub marks_more : (row waiting : List ℕ) (i : ℕ) → i < length row → get_or row i 0 < length waiting → Marks waiting (take i row) → Marks (set waiting (get_or row i 0) 1) (take (i + 1) row)
marks_more row waiting i h below marks k within =
    let x = get_or row i 0 in
    let size : length (set waiting x 1) ≡ length waiting = length-set waiting x 1 in
    let old : k < length waiting = omega (arith, within, size) in
    let now : stands_in same_number k (take (i + 1) row) ≡ (stands_in same_number k (take i row) || (x == k)) = ap (stands_in same_number k) (take_more row i 0 h) ∙ stands_push k x (take i row) in
    elim (cases_eq k x) [
      | inl e ↦
          let yes : (x == k) ≡ true = eq-eqb x k (sym e) in
          let is : stands_in same_number k (take (i + 1) row) ≡ true = now ∙ ap (λ (b : Bool). stands_in same_number k (take i row) || b) yes ∙ or_true (stands_in same_number k (take i row)) true refl in
          ap (λ (n : ℕ). get_or (set waiting x 1) n 0) e ∙ get_or-set_same waiting x 1 0 below ∙ sym (ap one_where is)
      | inr apart ↦
          let no : (x == k) ≡ false =
          elim (cases_Bool (x == k)) [
            | inl t ↦ absurd (apart (sym (eqb-true x k t)))
            | inr f ↦ f
          ] in
          let is : stands_in same_number k (take (i + 1) row) ≡ stands_in same_number k (take i row) = now ∙ ap (λ (b : Bool). stands_in same_number k (take i row) || b) no ∙ or_no (stands_in same_number k (take i row)) in
          get_or-set_other waiting x k 1 0 apart ∙ marks k old ∙ sym (ap one_where is)
    ]
  where
    or_no : (b : Bool) → (b || false) ≡ b
    or_no true = refl
    or_no false = refl

stands_take : (k i : ℕ) (l : List ℕ) → stands_in same_number k l ≡ false → stands_in same_number k (take i l) ≡ false
stands_take k zero l none = refl
stands_take k (suc i) [] none = refl
stands_take k (suc i) (x ∷ xs) none =
    or_none (x == k) (stands_in same_number k (take i xs)) (or_left (x == k) (stands_in same_number k xs) none) (stands_take k i xs (or_right (x == k) (stands_in same_number k xs) none))

pub counts_only : (row waiting : List ℕ) (i : ℕ) → Marks waiting (take i row) → CountsOnly waiting row
counts_only row waiting i marks k within none = marks k within ∙ ap one_where (stands_take k i row none)

-- what is forgotten is counted no more
pub forgotten_more : (row waiting : List ℕ) (i : ℕ) → i < length row → get_or row i 0 < length waiting → CountsOnly waiting (drop i row) → CountsOnly (set waiting (get_or row i 0) 0) (drop (i + 1) row)
forgotten_more row waiting i h below counts k within none =
    let x = get_or row i 0 in
    let size : length (set waiting x 0) ≡ length waiting = length-set waiting x 0 in
    let old : k < length waiting = omega (arith, within, size) in
    elim (cases_eq k x) [
      | inl e ↦ ap (λ (n : ℕ). get_or (set waiting x 0) n 0) e ∙ get_or-set_same waiting x 0 0 below
      | inr apart ↦
          let no : (x == k) ≡ false =
          elim (cases_Bool (x == k)) [
            | inl t ↦ absurd (apart (sym (eqb-true x k t)))
            | inr f ↦ f
          ] in
          let before : stands_in same_number k (drop i row) ≡ false = ap (stands_in same_number k) (drop_more row i 0 h) ∙ or_none (x == k) (stands_in same_number k (drop (i + 1) row)) no none in
          get_or-set_other waiting x k 0 0 apart ∙ counts k old before
    ]

pub all_forgotten : (row waiting : List ℕ) (i : ℕ) → length row ≤ i → CountsOnly waiting (drop i row) → HoldsZeros waiting
all_forgotten row waiting i le counts k within = counts k within (ap (stands_in same_number k) (drop_all i row le))

-- ---- numbers that stand once

name_there : (f : ℕ → Bytes) (x : ℕ) (xs : List ℕ) → stands_in same_number x xs ≡ true → Has (f x) (map f xs)
name_there f x [] h = absurd (false≢true h)
name_there f x (y ∷ ys) h = go (y == x) refl h (name_there f x ys)
  where
    go : (b : Bool) → (y == x) ≡ b → (b || stands_in same_number x ys) ≡ true → (stands_in same_number x ys ≡ true → Has (f x) (map f ys)) → Has (f x) (map f (y ∷ ys))
    go true e h later = inl (ap f (eqb-true y x e))
    go false e h later = inr (later h)

numbers_once : (f : ℕ → Bytes) (l : List ℕ) → AreOnce (map f l) → StandOnce l
numbers_once f [] once = tt
numbers_once f (x ∷ xs) once =
    let none : stands_in same_number x xs ≡ false =
    elim (cases_Bool (stands_in same_number x xs)) [
      | inl t ↦ absurd (once.0 (name_there f x xs t))
      | inr e ↦ e
    ] in
    (none, numbers_once f xs once.1)

line_stands_once : (text : List IniLine) (names : List Bytes) (k : ℕ) (line : List ℕ) → IsNumberLine text names k line → StandOnce line
line_stands_once text names k line is = numbers_once (name_at names) line (line_once is.0.0 text (name_at names k) (map (name_at names) line) is.0.1)

pub first_once : (text : List IniLine) (names : List Bytes) (lines : List (List ℕ)) (row : List ℕ) → HaveLines text names lines row → IsFirstOnce lines row
first_once text names lines [] have = tt
first_once text names lines (x ∷ xs) have = line_stands_once text names x (line_at lines x) (have_first text names lines x xs have).1
