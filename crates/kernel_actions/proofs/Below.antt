-- What stands inside of a module, by the one around each and by the submodules of each.
use Rattle.std.proofs.Common.{◌≡◌, ◌≢◌, ◌⊎◌, inl, inr, ℕ, zero, suc, ◌+◌, ◌-◌, ◌≤◌, ◌<◌, ◌==◌, ◌&&◌, ◌||◌, not, max, cond, Bool, true, false, List, [], ◌∷◌, Option, Some, None, refl, sym, ap, ◌∙◌, subst, arith, eq-or-lt_of_le, length, slice_get, true≢false, eqb-true, eq-eqb, if◌then◌else◌}
use Rattle.std.specs.List.{filter}
use Rattle.child_table.specs.Children.{children_from, children_of}
use Rattle.model_questions.specs.declared.record.Record.{Record}
use Rattle.model_questions.specs.Records.{record_at}
use Rattle.run_semantics.specs.Subtree.{among, ids_from, inner_first, inner_first_to, inside_around, is_under, stands_in, stands_in_to, submodules, without}
use Rattle.subtrees.proofs.Ordered.{inner_alike}
use Rattle.kernel_actions.specs.Modules.{those_around, AroundFirst}
use Rattle.kernel_actions.specs.Walks.{greatest, last_below, living_below}
use Rattle.kernel_actions.proofs.Listed.{parent_below}
use Rattle.kernel_actions.proofs.Ranges.{filter_swap}

-- ---- submodules

-- the submodules of a module are those that it is around
children_are : (parent n k : ℕ) (all rs : List Record) → n ≡ suc k → ((i : ℕ) → slice_get rs i ≡ slice_get all (k + i)) → children_from parent n (those_around rs) ≡ filter (λ id. is_under parent (record_at all id)) (ids_from n rs)
children_are parent n k all [] e h = refl
children_are parent n k all (r ∷ rs) e h =
    let at : k + 0 ≡ k = omega arith in
    let there : record_at all n ≡ Some r = ap (record_at all) e ∙ (ap (slice_get all) (sym at) ∙ sym (h 0)) in
    let later = children_are parent (suc n) (suc k) all rs (ap suc e) (λ i. let next : k + suc i ≡ suc k + i = omega arith in h (suc i) ∙ ap (slice_get all) next) in
    ap (λ ids. if r.parent == parent then n ∷ ids else ids) later
    ∙ ap (λ t. cond t (n ∷ filter (λ id. is_under parent (record_at all id)) (ids_from (suc n) rs)) (filter (λ id. is_under parent (record_at all id)) (ids_from (suc n) rs))) (sym (ap (is_under parent) there))

submodules_are : (rs : List Record) (parent : ℕ) → children_of parent (those_around rs) ≡ submodules rs (ids_from 1 rs) parent
submodules_are rs parent = children_are parent 1 0 rs rs refl (λ i. let same : i ≡ 0 + i = omega arith in ap (slice_get rs) same)

-- and those of them that live
living_are : (rs : List Record) (dead : List ℕ) (parent : ℕ) → living_below (those_around rs) dead parent ≡ submodules rs (without (ids_from 1 rs) dead) parent
living_are rs dead parent =
    ap (filter (λ n. not (among n dead))) (submodules_are rs parent)
    ∙ filter_swap (λ id. is_under parent (record_at rs id)) (λ n. not (among n dead)) (ids_from 1 rs)

pub inner_first_is : (rs : List Record) (dead around : List ℕ) (id : ℕ) → around ≡ those_around rs → inner_first_to 33 (living_below around dead) id ≡ inner_first rs (without (ids_from 1 rs) dead) id
unfolding inner_first
inner_first_is rs dead around id e =
    ap (λ ns. inner_first_to 33 (living_below ns dead) id) e
    ∙ inner_alike (living_below (those_around rs) dead) (submodules rs (without (ids_from 1 rs) dead)) (living_are rs dead) 33 id

-- ---- the greatest id

above_start : (f : ℕ → ℕ) (n : ℕ) (ids : List ℕ) → n ≤ greatest f n ids
above_start f n [] = omega arith
above_start f n (id ∷ ids) = let h = above_start f (max n (f id)) ids in omega (arith, h)

above_one : (f : ℕ → ℕ) (n : ℕ) (ids : List ℕ) (id : ℕ) → among id ids ≡ true → f id ≤ greatest f n ids
above_one f n [] id e = cc
above_one f n (x ∷ ids) id e = by (x == id) refl e (above_one f (max n (f x)) ids id)
  where
    by : (t : Bool) → (x == id) ≡ t → (t || among id ids) ≡ true → (among id ids ≡ true → f id ≤ greatest f (max n (f x)) ids) → f id ≤ greatest f (max n (f x)) ids
    by true same h more = let here = above_start f (max n (f x)) ids in let is = ap f (eqb-true x id same) in omega (arith, here, is)
    by false same h more = more h

-- a module is among the submodules of the one around it
among_passing : (id n : ℕ) (f : ℕ → Bool) (rs : List Record) → n ≤ id → id < n + length rs → f id ≡ true → among id (filter f (ids_from n rs)) ≡ true
among_passing id n f [] l m e = absurd (omega (arith, l, m))
among_passing id n f (r ∷ rs) l m e = by (n == id) refl (f n) refl (λ less. among_passing id (suc n) f rs less (omega (arith, m)) e)
  where
    further : (n == id) ≡ false → suc n ≤ id
    further out = either (eq-or-lt_of_le l)
      where
        either : (n ≡ id) ⊎ (n < id) → suc n ≤ id
        either (inl is) = absurd (true≢false (sym (eq-eqb n id is) ∙ out))
        either (inr less) = omega (arith, less)

    by : (t : Bool) → (n == id) ≡ t → (u : Bool) → f n ≡ u → (suc n ≤ id → among id (filter f (ids_from (suc n) rs)) ≡ true) → among id (cond u (n ∷ filter f (ids_from (suc n) rs)) (filter f (ids_from (suc n) rs))) ≡ true
    by true same true p more = ap (λ t. t || among id (filter f (ids_from (suc n) rs))) same
    by true same false p more = absurd (true≢false (sym e ∙ (ap f (sym (eqb-true n id same)) ∙ p)))
    by false same true p more = ap (λ t. t || among id (filter f (ids_from (suc n) rs))) same ∙ more (further same)
    by false same false p more = more (further same)

got : (xs : List Record) (k : ℕ) (r : Record) → slice_get xs k ≡ Some r → k < length xs
got [] k r e = cc
got (x ∷ xs) zero r e = omega arith
got (x ∷ xs) (suc k) r e = let l = got xs k r e in omega (arith, l)

there_within : (rs : List Record) (id : ℕ) (r : Record) → record_at rs id ≡ Some r → (1 ≤ id) × (id < 1 + length rs)
there_within rs zero r e = cc
there_within rs (suc k) r e = let l = got rs k r e in (omega arith, omega (arith, l))

child_of : (rs : List Record) (id : ℕ) (r : Record) → record_at rs id ≡ Some r → among id (children_of r.parent (those_around rs)) ≡ true
child_of rs id r e =
    let within = there_within rs id r e in
    ap (among id) (submodules_are rs r.parent)
    ∙ among_passing id 1 (λ n. is_under r.parent (record_at rs n)) rs within.0 within.1 (ap (is_under r.parent) e ∙ eq-eqb r.parent r.parent refl)

-- ---- each that stands in a module has an id from its own up to the greatest

-- a module that stands in another one is that or stands in a submodule of it, so many levels below
pub record StandsUnder (depth : ℕ) (rs : List Record) (outer id : ℕ) : Type 0 where
  pub child : ℕ
  pub is_child : among child (children_of outer (those_around rs)) ≡ true
  pub stands : stands_in_to depth rs child id ≡ true

itself : (k n : ℕ) (rs : List Record) → stands_in_to (suc k) rs n n ≡ true
itself k n rs = ap (λ t. t || inside_around (stands_in_to k rs n) (record_at rs n)) (eq-eqb n n refl)

either : (t u : Bool) → u ≡ true → (t || u) ≡ true
either true u p = refl
either false u p = p

further : (rs : List Record) (k n id : ℕ) (r : Record) → record_at rs id ≡ Some r → stands_in_to k rs n r.parent ≡ true → stands_in_to (suc k) rs n id ≡ true
further rs k n id r there h = either (id == n) (inside_around (stands_in_to k rs n) (record_at rs id)) (ap (inside_around (stands_in_to k rs n)) there ∙ h)

-- from the module around it
up : (depth : ℕ) (rs : List Record) (outer id : ℕ) (r : Record) → record_at rs id ≡ Some r → (parent : (r.parent ≡ outer) ⊎ StandsUnder depth rs outer r.parent) → StandsUnder (suc depth) rs outer id
up depth rs outer id r there (inl same) = record {
  child = id;
  is_child = ap (λ n. among id (children_of n (those_around rs))) (sym same) ∙ child_of rs id r there;
  stands = itself depth id rs;
}
up depth rs outer id r there (inr below) = record { child = below.child; is_child = below.is_child; stands = further rs depth below.child id r there below.stands }

under : (depth : ℕ) (rs : List Record) (outer id : ℕ) → stands_in_to (suc depth) rs outer id ≡ true → (id ≡ outer) ⊎ StandsUnder depth rs outer id
under zero rs outer id e = by (id == outer) refl (record_at rs id) e
  where
    by : (t : Bool) → (id == outer) ≡ t → (o : Option Record) → (t || inside_around (stands_in_to zero rs outer) o) ≡ true → (id ≡ outer) ⊎ StandsUnder zero rs outer id
    by true same o h = inl (eqb-true id outer same)
    by false same None h = cc
    by false same (Some r) h = cc
under (suc depth) rs outer id e = by (id == outer) refl (record_at rs id) refl e (under depth rs outer)
  where
    by : (t : Bool) → (id == outer) ≡ t → (o : Option Record) → record_at rs id ≡ o → (t || inside_around (stands_in_to (suc depth) rs outer) o) ≡ true
        → ((n : ℕ) → stands_in_to (suc depth) rs outer n ≡ true → (n ≡ outer) ⊎ StandsUnder depth rs outer n) → (id ≡ outer) ⊎ StandsUnder (suc depth) rs outer id
    by true same o there h more = inl (eqb-true id outer same)
    by false same None there h more = cc
    by false same (Some r) there h more = inr (up depth rs outer id r there (more r.parent h))

up_to_last : (depth : ℕ) (rs : List Record) (outer id : ℕ) → stands_in_to depth rs outer id ≡ true → id ≤ last_below depth (those_around rs) outer
up_to_last zero rs outer id e = cc
up_to_last (suc depth) rs outer id e = elim (under depth rs outer id e) [
  | inl same ↦ let least = above_start (last_below depth (those_around rs)) outer (children_of outer (those_around rs)) in omega (arith, least, same)
  | inr below ↦
      let most = above_one (last_below depth (those_around rs)) outer (children_of outer (those_around rs)) below.child below.is_child in
      let own = up_to_last depth rs below.child id below.stands in
      omega (arith, most, own)
]

from_own : (depth : ℕ) (rs : List Record) (outer id : ℕ) → AroundFirst 0 rs → stands_in_to depth rs outer id ≡ true → outer ≤ id
from_own zero rs outer id h e = cc
from_own (suc depth) rs outer id h e = by (id == outer) refl (record_at rs id) refl e (λ n. from_own depth rs outer n h)
  where
    by : (t : Bool) → (id == outer) ≡ t → (o : Option Record) → record_at rs id ≡ o → (t || inside_around (stands_in_to depth rs outer) o) ≡ true → ((n : ℕ) → stands_in_to depth rs outer n ≡ true → outer ≤ n) → outer ≤ id
    by true same o there e more = let is = eqb-true id outer same in omega (arith, is)
    by false same None there e more = cc
    by false same (Some r) there e more = let f = more r.parent e in let less = parent_below rs id r h there in omega (arith, f, less)

false_by : (t : Bool) → (t ≡ true → ⊥) → t ≡ false
false_by true h = absurd (h refl)
false_by false h = refl

and_false : (t : Bool) → (t && false) ≡ false
and_false true = refl
and_false false = refl

-- whether it is not dead and stands in that module
abbrev pub lives_in : List Record → List ℕ → ℕ → ℕ → Bool
lives_in rs dead outer id = not (among id dead) && stands_in rs outer id

pub none_before : (rs : List Record) (dead : List ℕ) (outer id : ℕ) → AroundFirst 0 rs → id < outer → lives_in rs dead outer id ≡ false
unfolding stands_in
none_before rs dead outer id h l = ap (λ t. not (among id dead) && t) (false_by (stands_in rs outer id) (λ e. let f = from_own 33 rs outer id h e in omega (arith, f, l))) ∙ and_false (not (among id dead))

pub none_after : (rs : List Record) (dead around : List ℕ) (outer id : ℕ) → around ≡ those_around rs → last_below 33 around outer < id → lives_in rs dead outer id ≡ false
unfolding stands_in
none_after rs dead around outer id same l =
    let most : last_below 33 (those_around rs) outer < id = subst (λ ns. last_below 33 ns outer < id) same l in
    ap (λ t. not (among id dead) && t) (false_by (stands_in rs outer id) (λ e. let f = up_to_last 33 rs outer id e in omega (arith, f, most))) ∙ and_false (not (among id dead))
