-- Where a module is deleted, those of its subtree that were started are finished, and no others; and
-- at the end of a run nobody is who is dead.
use Rattle.std.proofs.Common.{◌≡◌, ◌⊎◌, inl, inr, ℕ, zero, suc, ◌≤◌, ◌==◌, cond, Bool, true, false, ◌||◌, List, [], ◌∷◌, Option, Some, None, refl, sym, ap, ◌∙◌, subst, eq-eqb, eqb-true}
use Rattle.std.specs.List.{filter}
use Rattle.model_questions.specs.declared.record.Record.{Record}
use Rattle.model_questions.specs.Records.{record_at}
use Rattle.model_questions.proofs.AnswerLemmas.{AreNested}
use Rattle.run_semantics.specs.Deleting.{subtree_of, to_finish_in}
use Rattle.run_semantics.specs.Ending.{to_finish}
use Rattle.run_semantics.specs.Laws.{Each, IsAmong}
use Rattle.run_semantics.specs.Subtree.{among, common, each_of, inner_first, inner_first_to, inside_around, is_under, stands_in, stands_in_to, submodules}
use Rattle.run_semantics.specs.World.{World, is_live, live_of}
use Rattle.run_semantics.proofs.Growth.{Fits}
use Rattle.run_semantics.proofs.Living.{is_among}
use Rattle.nested_starts.specs.Levels.{ParentIs, IsWithin}
use Rattle.nested_starts.proofs.Apart.{each_from, from_each, kept_is}
use Rattle.nested_starts.proofs.Levels.{AllWithin}
use Rattle.nested_starts.proofs.Orders.{among_parts, inner_itself, inner_more, kept_in, under_parent}
use Rattle.nested_starts.proofs.Within.{among_is, first_parent, each_there, live_above, none_stands}

differ : false ≡ true → ⊥
differ q = cc

either_so : (a b : Bool) → (a || b) ≡ true → (a ≡ true) ⊎ (b ≡ true)
either_so true b e = inl refl
either_so false b e = inr e

first_so : (a b : Bool) → a ≡ true → (a || b) ≡ true
first_so true b e = refl
first_so false b e = cc

second_so : (a b : Bool) → b ≡ true → (a || b) ≡ true
second_so true b e = refl
second_so false b e = e

-- what is kept was there
kept_there : (f : ℕ → Bool) (x : ℕ) (xs : List ℕ) → IsAmong x (filter f xs) → IsAmong x xs
kept_there f x [] h = h
kept_there f x (y ∷ ys) h = by (f y) h (kept_there f x ys)
  where
    by : (t : Bool) → IsAmong x (cond t (y ∷ filter f ys) (filter f ys)) → (IsAmong x (filter f ys) → IsAmong x ys) → IsAmong x (y ∷ ys)
    by true (inl e) later = inl e
    by true (inr i) later = inr (later i)
    by false i later = inr (later i)

-- ---- what stands in a module is in its order

module _ (rs : List Record) (live : List ℕ) (outer : ℕ) (above : 1 ≤ outer) (nested : AreNested 0 rs) where
  in_order : (d n id : ℕ) → IsWithin rs live n id → stands_in_to d rs outer id ≡ true → IsAmong id (inner_first_to d (submodules rs live) outer)
  in_order zero n id h e = cc
  in_order (suc d) zero id h e = absurd h
  in_order (suc d) (suc n) id h e = by (either_so (id == outer) (inside_around (stands_in_to d rs outer) (record_at rs id)) e) (λ r. in_order d n r.parent)
    where
      around : (o : Option Record) → record_at rs id ≡ o → inside_around (stands_in_to d rs outer) o ≡ true → (id ≡ 1) ⊎ (IsAmong id live × ParentIs (IsWithin rs live n) o)
          → ((r : Record) → IsWithin rs live n r.parent → stands_in_to d rs outer r.parent ≡ true → IsAmong r.parent (inner_first_to d (submodules rs live) outer))
          → IsAmong id (inner_first_to (suc d) (submodules rs live) outer)
      around None g i w later = absurd (differ i)
      around (Some r) g i (inl one) later =
          let zero_id : 0 ≡ r.parent = first_parent rs r nested (ap (record_at rs) (sym one) ∙ g) in
          absurd (differ (sym (none_stands d rs outer above) ∙ (ap (stands_in_to d rs outer) zero_id ∙ i)))
      around (Some r) g i (inr w) later = inner_more (submodules rs live) d outer r.parent id (later r w.1 i) (under_parent rs live id r w.0 g)

      by : ((id == outer) ≡ true) ⊎ (inside_around (stands_in_to d rs outer) (record_at rs id) ≡ true)
          → ((r : Record) → IsWithin rs live n r.parent → stands_in_to d rs outer r.parent ≡ true → IsAmong r.parent (inner_first_to d (submodules rs live) outer))
          → IsAmong id (inner_first_to (suc d) (submodules rs live) outer)
      by (inl t) later = subst (λ k. IsAmong k (inner_first_to (suc d) (submodules rs live) outer)) (sym (eqb-true id outer t)) (inner_itself (submodules rs live) d outer)
      by (inr i) later = around (record_at rs id) refl i h later

-- ---- what is in the order of a module stands in it

-- in a module that stands in another one, one level further in
one_in : (rs : List Record) (outer inner : ℕ) → is_under outer (record_at rs inner) ≡ true → (d id : ℕ) → stands_in_to d rs inner id ≡ true → stands_in_to (suc d) rs outer id ≡ true
one_in rs outer inner u zero id e = cc
one_in rs outer inner u (suc d) id e = by (either_so (id == inner) (inside_around (stands_in_to d rs inner) (record_at rs id)) e) (λ r. one_in rs outer inner u d r.parent)
  where
    there : (o : Option Record) → is_under outer o ≡ true → inside_around (stands_in_to (suc d) rs outer) o ≡ true
    there None q = cc
    there (Some r) q = first_so (r.parent == outer) (inside_around (stands_in_to d rs outer) (record_at rs r.parent)) q

    further : (o : Option Record) → inside_around (stands_in_to d rs inner) o ≡ true → ((r : Record) → stands_in_to d rs inner r.parent ≡ true → stands_in_to (suc d) rs outer r.parent ≡ true) → inside_around (stands_in_to (suc d) rs outer) o ≡ true
    further None q later = cc
    further (Some r) q later = later r q

    by : ((id == inner) ≡ true) ⊎ (inside_around (stands_in_to d rs inner) (record_at rs id) ≡ true) → ((r : Record) → stands_in_to d rs inner r.parent ≡ true → stands_in_to (suc d) rs outer r.parent ≡ true) → stands_in_to (suc (suc d)) rs outer id ≡ true
    by (inl t) later =
        let same = eqb-true id inner t in
        second_so (id == outer) (inside_around (stands_in_to (suc d) rs outer) (record_at rs id)) (there (record_at rs id) (ap (λ k. is_under outer (record_at rs k)) same ∙ u))
    by (inr i) later = second_so (id == outer) (inside_around (stands_in_to (suc d) rs outer) (record_at rs id)) (further (record_at rs id) i later)

from_order : (rs : List Record) (live : List ℕ) (d outer id : ℕ) → IsAmong outer live → IsAmong id (inner_first_to d (submodules rs live) outer) → IsAmong id live × (stands_in_to d rs outer id ≡ true)
from_order rs live zero outer id l h = absurd h
from_order rs live (suc d) outer id l h = by (among_parts id (each_of (inner_first_to d (submodules rs live)) (submodules rs live outer)) (outer ∷ []) h) (from_order rs live d)
  where
    by : IsAmong id (each_of (inner_first_to d (submodules rs live)) (submodules rs live outer)) ⊎ IsAmong id (outer ∷ [])
        → ((inner k : ℕ) → IsAmong inner live → IsAmong k (inner_first_to d (submodules rs live) inner) → IsAmong k live × (stands_in_to d rs inner k ≡ true))
        → IsAmong id live × (stands_in_to (suc d) rs outer id ≡ true)
    by (inl i) later =
        let from = from_each (inner_first_to d (submodules rs live)) id (submodules rs live outer) i in
        let there = kept_there (λ k. is_under outer (record_at rs k)) from.one live from.there in
        let under = kept_is (λ k. is_under outer (record_at rs k)) from.one live from.there in
        let found = later from.one id there from.within in
        (found.0, one_in rs outer from.one under d id found.1)
    by (inr (inl e)) later = (subst (λ k. IsAmong k live) e l, first_so (id == outer) (inside_around (stands_in_to d rs outer) (record_at rs id)) (eq-eqb id outer (sym e)))
    by (inr (inr i)) later = absurd i

-- ---- a deletion

finished_one : (w : World) (id : ℕ) → Fits w → AllWithin w → is_live w id ≡ true → (k : ℕ) → IsAmong k (subtree_of id w) → IsAmong k w.started → IsAmong k (to_finish_in id w)
unfolding inner_first stands_in
finished_one w id f h live k i s =
    let there = kept_there (λ n. stands_in w.records id n) k (live_of w) i in
    let stands = kept_is (λ n. stands_in w.records id n) k (live_of w) i in
    let within = each_there (IsWithin w.records (live_of w) 33) k (live_of w) h there in
    kept_in (λ n. among n w.started) k (inner_first_to 33 (submodules w.records (live_of w)) id)
    (in_order w.records (live_of w) id (live_above w id live) f.nested 33 33 k within stands) (is_among k w.started s)

those_one : (w : World) (id : ℕ) → is_live w id ≡ true → (k : ℕ) → IsAmong k (to_finish_in id w) → IsAmong k (subtree_of id w)
unfolding inner_first stands_in
those_one w id live k i =
    let there = kept_there (λ n. among n w.started) k (inner_first_to 33 (submodules w.records (live_of w)) id) i in
    let found = from_order w.records (live_of w) 33 id k (among_is id (live_of w) live) there in
    kept_in (λ n. stands_in w.records id n) k (live_of w) found.0 found.1

-- all of the subtree that were started are finished
pub all_finished_first : (w : World) (id : ℕ) → Fits w → AllWithin w → is_live w id ≡ true → Each (λ k. IsAmong k w.started → IsAmong k (to_finish_in id w)) (subtree_of id w)
all_finished_first w id f h live = each_from (λ k. IsAmong k w.started → IsAmong k (to_finish_in id w)) (subtree_of id w) (finished_one w id f h live)

-- and no others
pub those_alone : (w : World) (id : ℕ) → is_live w id ≡ true → Each (λ k. IsAmong k (subtree_of id w)) (to_finish_in id w)
those_alone w id live = each_from (λ k. IsAmong k (subtree_of id w)) (to_finish_in id w) (those_one w id live)

-- ---- the end of a run

ends_one : (w : World) → IsAmong 1 (live_of w) → IsAmong 1 w.started → (k : ℕ) → IsAmong k (to_finish w) → IsAmong k (live_of w) × IsAmong k w.started
unfolding inner_first
ends_one w l s k i =
    let network = kept_in (λ n. among n w.started) 1 (live_of w) l (is_among 1 w.started s) in
    let found = from_order w.records (common (live_of w) w.started) 33 1 k network i in
    (kept_there (λ n. among n w.started) k (live_of w) found.0, among_is k w.started (kept_is (λ n. among n w.started) k (live_of w) found.0))

-- nobody is finished there who is dead
pub ends_alone : (w : World) → IsAmong 1 (live_of w) → IsAmong 1 w.started → Each (λ k. IsAmong k (live_of w) × IsAmong k w.started) (to_finish w)
ends_alone w l s = each_from (λ k. IsAmong k (live_of w) × IsAmong k w.started) (to_finish w) (ends_one w l s)
