-- How far down modules stand, and that this stays so as others are deleted.
use Rattle.std.proofs.Common.{◌≡◌, ◌≢◌, ◌⊎◌, inl, inr, ⊎_elim, ℕ, zero, suc, ◌≤◌, ◌<◌, ◌==◌, Bool, true, false, not, ◌||◌, ◌&&◌, List, [], ◌∷◌, ◌++◌, Option, Some, None, refl, sym, ap, ◌∙◌, subst, arith, eq-or-lt_of_le, eqb-true}
use Rattle.model_questions.specs.declared.record.Record.{Record}
use Rattle.model_questions.specs.Records.{record_at}
use Rattle.model_questions.proofs.AnswerLemmas.{AreNested}
use Rattle.run_semantics.specs.Deleting.{gone, subtree_of}
use Rattle.run_semantics.specs.Laws.{Each, IsAmong}
use Rattle.run_semantics.specs.Subtree.{among, ids_from, inside_around, stands_in, stands_in_to}
use Rattle.run_semantics.specs.World.{World, is_live, live_of}
use Rattle.run_semantics.proofs.Alive.{among_append, among_filter, and_both, each_among, ids_above, live_gone, live_is, live_within, lived, not_among}
use Rattle.run_semantics.proofs.Growth.{Fits}
use Rattle.run_semantics.proofs.Living.{is_among}
use Rattle.nested_starts.specs.Levels.{ParentIs, IsWithin}

-- ---- lists of ids

pub among_front : (x : ℕ) (xs ys : List ℕ) → IsAmong x xs → IsAmong x (xs ++ ys)
among_front x [] ys h = absurd h
among_front x (y ∷ xs) ys (inl e) = inl e
among_front x (y ∷ xs) ys (inr h) = inr (among_front x xs ys h)

pub among_back : (x : ℕ) (xs ys : List ℕ) → IsAmong x ys → IsAmong x (xs ++ ys)
among_back x [] ys h = h
among_back x (y ∷ xs) ys h = inr (among_back x xs ys h)

-- what is found there is among these
pub among_is : (x : ℕ) (xs : List ℕ) → among x xs ≡ true → IsAmong x xs
among_is x [] e = cc
among_is x (y ∷ xs) e = by (y == x) refl (among_is x xs) e
  where
    by : (t : Bool) → (y == x) ≡ t → (among x xs ≡ true → IsAmong x xs) → (t || among x xs) ≡ true → IsAmong x (y ∷ xs)
    by true t later e = inl (eqb-true y x t)
    by false t later e = inr (later e)

pub each_there : (P : ℕ → Type 0) (x : ℕ) (xs : List ℕ) → Each P xs → IsAmong x xs → P x
each_there P x [] h i = absurd i
each_there P x (y ∷ ys) h (inl e) = subst P e h.0
each_there P x (y ∷ ys) h (inr i) = each_there P x ys h.1 i

-- ---- levels

pub parent_on : (P Q : ℕ → Type 0) (o p : Option Record) → ((r : Record) → o ≡ Some r → p ≡ Some r) → ((id : ℕ) → P id → Q id) → ParentIs P o → ParentIs Q p
parent_on P Q None p f g h = absurd h
parent_on P Q (Some r) p f g h = subst (ParentIs Q) (sym (f r refl)) (g r.parent h)

-- more levels
within_one : (rs : List Record) (live : List ℕ) (k id : ℕ) → IsWithin rs live k id → IsWithin rs live (suc k) id
within_one rs live zero id h = absurd h
within_one rs live (suc k) id (inl e) = inl e
within_one rs live (suc k) id (inr h) = inr (h.0, parent_on (IsWithin rs live k) (IsWithin rs live (suc k)) (record_at rs id) (record_at rs id) (λ r e. e) (within_one rs live k) h.1)

pub within_most : (rs : List Record) (live : List ℕ) (k n id : ℕ) → k ≤ n → IsWithin rs live k id → IsWithin rs live n id
within_most rs live k zero id l h = let e : k ≡ zero = omega arith in subst (λ i. IsWithin rs live i id) e h
within_most rs live k (suc n) id l h =
    ⊎_elim
    (λ (e : k ≡ suc n). subst (λ i. IsWithin rs live i id) e h)
    (λ (lt : k < suc n). within_one rs live n id (within_most rs live k n id (omega (arith, lt)) h))
    (eq-or-lt_of_le l)

-- ---- what stands in another module

neither : (a b : Bool) → (a || b) ≡ false → (a ≡ false) × (b ≡ false)
neither false b e = (refl, e)
neither true b e = cc

not_either : (a b : Bool) → a ≡ false → b ≡ false → (a || b) ≡ false
not_either false b e f = f
not_either true b e f = cc

not_same : (a b : ℕ) → a ≢ b → (a == b) ≡ false
not_same a b n = by (a == b) refl
  where
    by : (t : Bool) → (a == b) ≡ t → t ≡ false
    by true e = absurd (n (eqb-true a b e))
    by false e = refl

-- no module has the id zero
pub none_stands : (d : ℕ) (rs : List Record) (outer : ℕ) → 1 ≤ outer → stands_in_to d rs outer 0 ≡ false
none_stands zero rs outer l = refl
none_stands (suc d) rs outer l = not_either (0 == outer) false (not_same 0 outer (λ e. omega (arith, l, e))) refl

-- around the network there is none
pub first_parent : (rs : List Record) (r : Record) → AreNested 0 rs → record_at rs 1 ≡ Some r → 0 ≡ r.parent
first_parent [] r h e = cc
first_parent (x ∷ rs) r h e = let same : x ≡ r = cc in let p : x.parent ≤ 0 = h.0 in omega (arith, p, ap (λ (s : Record). s.parent) same)

-- a module that is so many levels down stands in no more modules than those so many levels up
pub all_around : (rs : List Record) (live : List ℕ) (outer : ℕ) → 1 ≤ outer → AreNested 0 rs → (k d id : ℕ) → IsWithin rs live k id → stands_in_to k rs outer id ≡ false → stands_in_to d rs outer id ≡ false
all_around rs live outer l nested zero d id h e = absurd h
all_around rs live outer l nested (suc k) zero id h e = refl
all_around rs live outer l nested (suc k) (suc d) id h e =
    let parts = neither (id == outer) (inside_around (stands_in_to k rs outer) (record_at rs id)) e in
    not_either (id == outer) (inside_around (stands_in_to d rs outer) (record_at rs id)) parts.0 (by (record_at rs id) refl h parts.1 (λ r. all_around rs live outer l nested k d r.parent))
  where
    by : (o : Option Record) → record_at rs id ≡ o → (id ≡ 1) ⊎ (IsAmong id live × ParentIs (IsWithin rs live k) o) → inside_around (stands_in_to k rs outer) o ≡ false
        → ((r : Record) → IsWithin rs live k r.parent → stands_in_to k rs outer r.parent ≡ false → stands_in_to d rs outer r.parent ≡ false) → inside_around (stands_in_to d rs outer) o ≡ false
    by None g i n later = refl
    by (Some r) g (inl one) n later =
        let zero_id : 0 ≡ r.parent = first_parent rs r nested (ap (record_at rs) (sym one) ∙ g) in
        subst (λ p. stands_in_to d rs outer p ≡ false) zero_id (none_stands d rs outer l)
    by (Some r) g (inr i) n later = later r i.1 n

-- where a module doesn't stand in another one, neither does the one around it
parent_out : (rs : List Record) (live : List ℕ) (outer k id : ℕ) (r : Record) → 1 ≤ outer → AreNested 0 rs → k ≤ 32 → record_at rs id ≡ Some r → IsWithin rs live k r.parent → stands_in rs outer id ≡ false → stands_in rs outer r.parent ≡ false
unfolding stands_in
parent_out rs live outer k id r l nested few e h out =
    let parts = neither (id == outer) (inside_around (stands_in_to 32 rs outer) (record_at rs id)) out in
    let up : stands_in_to 32 rs outer r.parent ≡ false = ap (inside_around (stands_in_to 32 rs outer)) (sym e) ∙ parts.1 in
    all_around rs live outer l nested 32 33 r.parent (within_most rs live k 32 r.parent few h) up

-- ---- a deletion

-- what doesn't stand in the module that is deleted is as far down as it was
left_within : (rs : List Record) (live others : List ℕ) (outer : ℕ) → 1 ≤ outer → AreNested 0 rs → ((id : ℕ) → IsAmong id live → stands_in rs outer id ≡ false → IsAmong id others)
    → (k id : ℕ) → k ≤ 33 → IsWithin rs live k id → stands_in rs outer id ≡ false → IsWithin rs others k id
left_within rs live others outer l nested keep zero id few h out = absurd h
left_within rs live others outer l nested keep (suc k) id few (inl one) out = inl one
left_within rs live others outer l nested keep (suc k) id few (inr h) out =
    inr (keep id h.0 out, by (record_at rs id) refl h.1 (λ r. left_within rs live others outer l nested keep k r.parent (omega (arith, few))))
  where
    by : (o : Option Record) → record_at rs id ≡ o → ParentIs (IsWithin rs live k) o → ((r : Record) → IsWithin rs live k r.parent → stands_in rs outer r.parent ≡ false → IsWithin rs others k r.parent) → ParentIs (IsWithin rs others k) o
    by None e p later = absurd p
    by (Some r) e p later = later r p (parent_out rs live outer k id r l nested (omega (arith, few)) e p out)

-- all that live stand at most so many levels down
abbrev pub AreWithin : ℕ → World → Type 0
AreWithin n w = Each (IsWithin w.records (live_of w) n) (live_of w)

-- one that doesn't stand there lives on
lives_on : (w : World) (target id : ℕ) → is_live w id ≡ true → stands_in w.records target id ≡ false → is_live (gone (subtree_of target w) w) id ≡ true
lives_on w target id live out = live_gone w (subtree_of target w) id live (among_filter id (λ n. stands_in w.records target n) (live_of w) ∙ and_second (is_live w id) (stands_in w.records target id) out)
  where
    and_second : (a b : Bool) → b ≡ false → (a && b) ≡ false
    and_second true b e = e
    and_second false b e = refl

-- one that is left lived, and doesn't stand there
was_out : (w : World) (target id : ℕ) → is_live (gone (subtree_of target w) w) id ≡ true → (is_live w id ≡ true) × (stands_in w.records target id ≡ false)
was_out w target id e =
    let v : World = gone (subtree_of target w) w in
    let live : is_live w id ≡ true = lived w v (subtree_of target w) id refl (live_within v id e) e in
    let left : among id (w.dead ++ subtree_of target w) ≡ false = not_among id v.dead (and_both (among id (ids_from 1 v.records)) (not (among id v.dead)) (sym (live_is v id) ∙ e)).1 in
    let none = (neither (among id w.dead) (among id (subtree_of target w)) (sym (among_append id w.dead (subtree_of target w)) ∙ left)).1 in
    (live, sym (and_first (is_live w id) (stands_in w.records target id) live) ∙ (sym (among_filter id (λ n. stands_in w.records target n) (live_of w)) ∙ none))
  where
    and_first : (a b : Bool) → a ≡ true → (a && b) ≡ b
    and_first true b e = refl
    and_first false b e = cc

-- a module that lives has an id above zero
pub live_above : (w : World) (id : ℕ) → is_live w id ≡ true → 1 ≤ id
live_above w id e = ids_above id 1 w.records (and_both (among id (ids_from 1 w.records)) (not (among id w.dead)) (sym (live_is w id) ∙ e)).0

-- what is left is as far down as it was
left_one : (n target : ℕ) (w : World) → n ≤ 33 → Fits w → 1 ≤ target → AreWithin n w → (id : ℕ) → is_live (gone (subtree_of target w) w) id ≡ true → IsWithin w.records (live_of (gone (subtree_of target w) w)) n id
left_one n target w few f above h id e =
    let v : World = gone (subtree_of target w) w in
    let was = was_out w target id e in
    let within = each_there (IsWithin w.records (live_of w) n) id (live_of w) h (among_is id (live_of w) was.0) in
    left_within w.records (live_of w) (live_of v) target above f.nested (λ k i out. among_is k (live_of v) (lives_on w target k (is_among k (live_of w) i) out)) n id few within was.1

-- A DELETION leaves it
pub gone_within : (n target : ℕ) (w : World) → n ≤ 33 → Fits w → is_live w target ≡ true → AreWithin n w → AreWithin n (gone (subtree_of target w) w)
gone_within n target w few f live h =
    let v : World = gone (subtree_of target w) w in
    each_among (IsWithin w.records (live_of v) n) (live_of v) (left_one n target w few f (live_above w target live) h)
