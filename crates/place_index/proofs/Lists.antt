-- Numbers that are listed under texts, with one more.
use Rattle.std.proofs.Common.{◌≡◌, ◌≢◌, inl, inr, get_or, Result, Ok, Err, OnOk, OnErr, ℕ, zero, suc, ◌<◌, ◌==◌, eq-eqb, Bool, true, false, true≢false, ◌||◌, cond, List, [], ◌∷◌, ◌++◌, length, Option, Some, None, refl, sym, ap, ◌∙◌, subst, arith, bytes_eq}
use Rattle.std.proofs.lemmas.Bool.{cases_eq}
use Rattle.std.proofs.lemmas.Option.{slice_get-get_or}
use Rattle.std.proofs.lemmas.Slice.Eq.{bytes_eq-Decides}
use Rattle.std.specs.Prelude.{slice_get, slice_set}
use Rattle.ini_trees.specs.Words.{Bytes}
use Rattle.place_index.specs.Listing.{AreApart, ListsMore, list_at, listed, or_none}
use Rattle.rest_index.specs.Rests.{is_among}

same_number : (n m : ℕ) → Some n ≡ Some m → n ≡ m
same_number n m h = cc

-- ---- lists of lists

left : (ls : List (List ℕ)) (l : List ℕ) (n : ℕ) → n < length ls → slice_get (ls ++ l ∷ []) n ≡ slice_get ls n
left [] l n h = absurd (omega (arith, h))
left (x ∷ ls) l zero h = refl
left (x ∷ ls) l (suc n) h = left ls l n (omega (arith, h))

last : (ls : List (List ℕ)) (l : List ℕ) → slice_get (ls ++ l ∷ []) (length ls) ≡ Some l
last [] l = refl
last (x ∷ ls) l = last ls l

longer : (ls : List (List ℕ)) (l : List ℕ) → length (ls ++ l ∷ []) ≡ suc (length ls)
longer [] l = refl
longer (x ∷ ls) l = ap suc (longer ls l)

there : (ls : List (List ℕ)) (n : ℕ) (l : List ℕ) → n < length ls → slice_get (slice_set ls n l) n ≡ Some l
there [] n l h = absurd (omega (arith, h))
there (x ∷ ls) zero l h = refl
there (x ∷ ls) (suc n) l h = there ls n l (omega (arith, h))

elsewhere : (ls : List (List ℕ)) (n k : ℕ) (l : List ℕ) → n ≢ k → slice_get (slice_set ls n l) k ≡ slice_get ls k
elsewhere [] n k l h = refl
elsewhere (x ∷ ls) zero zero l h = absurd (h refl)
elsewhere (x ∷ ls) zero (suc k) l h = refl
elsewhere (x ∷ ls) (suc n) zero l h = refl
elsewhere (x ∷ ls) (suc n) (suc k) l h = elsewhere ls n k l (λ e. h (ap suc e))

-- ---- a list more

module _ (numbers : Bytes → Option ℕ) (lists : List (List ℕ)) (l : List ℕ) (a : AreApart numbers lists) where
  -- which no text has
  list_stays : (o : Option ℕ) → ((n : ℕ) → o ≡ Some n → n < length lists) → list_at (lists ++ l ∷ []) o ≡ list_at lists o
  list_stays None h = refl
  list_stays (Some n) h = ap or_none (left lists l n (h n refl))

  pub behind_same : (t : Bytes) → listed numbers (lists ++ l ∷ []) t ≡ listed numbers lists t
  behind_same t = list_stays (numbers t) (λ n h. a.there t n h)

  -- which one text has
  module _ (after : Bytes → Option ℕ) (text : Bytes) (fresh : numbers text ≡ None) (more : (t : Bytes) → after t ≡ cond (bytes_eq text t) (Some (length lists)) (numbers t)) where
    pub with_text : AreApart after (lists ++ l ∷ [])
    with_text = record {
      there = λ t n h. there_by t n (bytes_eq text t) (sym (more t) ∙ h);
      apart = λ t u n h k. apart_by t u n (bytes_eq text t) (bytes_eq text u) refl refl (sym (more t) ∙ h) (sym (more u) ∙ k);
    }
      where
        there_by : (t : Bytes) (n : ℕ) (b : Bool) → cond b (Some (length lists)) (numbers t) ≡ Some n → n < length (lists ++ l ∷ [])
        there_by t n true h = omega (arith, same_number (length lists) n h, longer lists l)
        there_by t n false h = omega (arith, a.there t n h, longer lists l)

        too_far : (t : Bytes) (n : ℕ) → Some (length lists) ≡ Some n → numbers t ≡ Some n → ⊥
        too_far t n e h = omega (arith, a.there t n h, same_number (length lists) n e)

        apart_by : (t u : Bytes) (n : ℕ) (b c : Bool) → bytes_eq text t ≡ b → bytes_eq text u ≡ c → cond b (Some (length lists)) (numbers t) ≡ Some n → cond c (Some (length lists)) (numbers u) ≡ Some n → t ≡ u
        apart_by t u n true true x y h k = sym ((bytes_eq-Decides text t).0 x) ∙ (bytes_eq-Decides text u).0 y
        apart_by t u n true false x y h k = absurd (too_far u n h k)
        apart_by t u n false true x y h k = absurd (too_far t n k h)
        apart_by t u n false false x y h k = a.apart t u n h k

    pub text_same : l ≡ [] → (t : Bytes) → listed after (lists ++ l ∷ []) t ≡ listed numbers lists t
    text_same empty t = ap (list_at (lists ++ l ∷ [])) (more t) ∙ by (bytes_eq text t) refl
      where
        by : (b : Bool) → bytes_eq text t ≡ b → list_at (lists ++ l ∷ []) (cond b (Some (length lists)) (numbers t)) ≡ listed numbers lists t
        by true h = ap or_none (last lists l) ∙ empty ∙ sym (ap (list_at lists) (ap numbers (sym ((bytes_eq-Decides text t).0 h)) ∙ fresh))
        by false h = behind_same t

-- ---- a number more

among_more : (n m : ℕ) (ns : List ℕ) → is_among n ns ≡ true → is_among n (ns ++ m ∷ []) ≡ true
among_more n m [] h = absurd (true≢false (sym h))
among_more n m (k ∷ ns) h = by (k == n) h (among_more n m ns)
  where
    by : (b : Bool) → (b || is_among n ns) ≡ true → (is_among n ns ≡ true → is_among n (ns ++ m ∷ []) ≡ true) → (b || is_among n (ns ++ m ∷ [])) ≡ true
    by true h next = refl
    by false h next = next h

among_last : (n : ℕ) (ns : List ℕ) → is_among n (ns ++ n ∷ []) ≡ true
among_last n [] = ap (λ b. b || false) (eq-eqb n n refl)
among_last n (k ∷ ns) = or_right (k == n) _ (among_last n ns)
  where
    or_right : (a b : Bool) → b ≡ true → (a || b) ≡ true
    or_right true b h = refl
    or_right false b h = h

module _ (numbers : Bytes → Option ℕ) (lists : List (List ℕ)) (text : Bytes) (at n : ℕ) (a : AreApart numbers lists) (own : numbers text ≡ Some at) where
  abbrev pub more_there : List (List ℕ)
  more_there = slice_set lists at (list_at lists (Some at) ++ n ∷ [])

  at_own : list_at more_there (Some at) ≡ list_at lists (Some at) ++ n ∷ []
  at_own = ap or_none (there lists at (list_at lists (Some at) ++ n ∷ []) (a.there text at own))

  pub number_more : ListsMore (listed numbers lists) (listed numbers more_there)
  number_more t m = by (numbers t) refl
    where
      by : (o : Option ℕ) → numbers t ≡ o → is_among m (list_at lists o) ≡ true → is_among m (list_at more_there o) ≡ true
      by None e h = h
      by (Some k) e h = elim (cases_eq at k) [
        | inl same ↦
            subst (λ j. is_among m (list_at more_there (Some j)) ≡ true) same
            (ap (is_among m) at_own ∙ among_more m n (list_at lists (Some at)) (ap (λ j. is_among m (list_at lists (Some j))) same ∙ h))
        | inr other ↦ ap (λ o. is_among m (or_none o)) (elsewhere lists at k (list_at lists (Some at) ++ n ∷ []) other) ∙ h
      ]

  pub number_own : is_among n (listed numbers more_there text) ≡ true
  number_own = ap (λ o. is_among n (list_at more_there o)) own ∙ ap (is_among n) at_own ∙ among_last n (list_at lists (Some at))

-- ---- what the code has

pub list_there : (lists : List (List ℕ)) (at : ℕ) (l : List ℕ) → at < length lists → l ≡ get_or lists at l → slice_get lists at ≡ Some l
list_there lists at l h e = slice_get-get_or lists at l h ∙ ap Some (sym e)

set_same : (lists : List (List ℕ)) (at : ℕ) (l : List ℕ) → slice_get lists at ≡ Some l → slice_set lists at l ≡ lists
set_same [] at l h = refl
set_same (x ∷ lists) zero l h = ap (λ y. y ∷ lists) (sym (same_list x l h))
  where
    same_list : (a b : List ℕ) → Some a ≡ Some b → a ≡ b
    same_list a b e = cc
set_same (x ∷ lists) (suc at) l h = ap (λ ls. x ∷ ls) (set_same lists at l h)

pub pushed : {E : Type 0} (result : Result (Unit {0}) E) (lists : List (List ℕ)) (at : ℕ) (l behind : List ℕ) (n : ℕ) → slice_get lists at ≡ Some l → OnOk result (behind ≡ l ++ n ∷ [])
    → OnOk result (slice_set lists at behind ≡ slice_set lists at (list_at lists (Some at) ++ n ∷ []))
pushed (Ok x) lists at l behind n is e = ap (slice_set lists at) (e ∙ ap (λ o. or_none o ++ n ∷ []) (sym is))
pushed (Err x) lists at l behind n is e = e

pub not_pushed : {E : Type 0} (result : Result (Unit {0}) E) (lists : List (List ℕ)) (at : ℕ) (l behind : List ℕ) → slice_get lists at ≡ Some l → OnErr result (behind ≡ l) → OnErr result (slice_set lists at behind ≡ lists)
not_pushed (Ok x) lists at l behind is e = e
not_pushed (Err x) lists at l behind is e = ap (slice_set lists at) e ∙ set_same lists at l is
