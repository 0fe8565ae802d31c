-- Which modules live.
use Rattle.std.proofs.Common.{◌≡◌, inl, inr, ℕ, suc, ◌+◌, ◌==◌, Bool, true, false, ◌||◌, ◌&&◌, List, [], ◌∷◌, ◌++◌, refl, sym, ap, ◌∙◌, arith, eq-eqb, length, map}
use Rattle.std.specs.List.{filter}
use Rattle.model_questions.specs.declared.answer.Built.{Built}
use Rattle.model_questions.specs.declared.record.Record.{Record}
use Rattle.run_semantics.specs.Laws.{Each, IsAmong}
use Rattle.run_semantics.specs.Run.{record_under, with_submodules}
use Rattle.run_semantics.specs.Subtree.{among, ids_from, without}
use Rattle.run_semantics.specs.World.{World, live_of}

-- ---- lists

-- what is among these is found there
pub is_among : (id : ℕ) (ids : List ℕ) → IsAmong id ids → among id ids ≡ true
is_among id [] h = absurd h
is_among id (n ∷ ns) (inl e) = ap (λ t. t || among id ns) (eq-eqb n id e)
is_among id (n ∷ ns) (inr h) = by (n == id) (is_among id ns h)
  where
    by : (t : Bool) → among id ns ≡ true → (t || among id ns) ≡ true
    by true e = refl
    by false e = e

-- where all pass a test all are kept
pub all_kept : {X : Type 0} (f : X → Bool) (xs : List X) → Each (λ x. f x ≡ true) xs → filter f xs ≡ xs
all_kept f [] h = refl
all_kept f (x ∷ xs) h = rw h.0 (ap (λ ys. x ∷ ys) (all_kept f xs h.1))

pub both_pass : (a b : Bool) → a ≡ true → b ≡ true → (a && b) ≡ true
both_pass true b e f = f
both_pass false b e f = e

-- ---- the dead

-- all are there where none of them is left out
pub without_none : (ids : List ℕ) → without ids [] ≡ ids
without_none [] = refl
without_none (id ∷ ids) = ap (λ xs. id ∷ xs) (without_none ids)

-- where nobody is dead all live that were created
pub all_live : (w : World) → w.dead ≡ [] → live_of w ≡ ids_from 1 w.records
all_live w e = ap (without (ids_from 1 w.records)) e ∙ without_none (ids_from 1 w.records)

-- where the same modules were created and are dead the same live
pub same_live : (v w : World) → w.records ≡ v.records → w.dead ≡ v.dead → live_of w ≡ live_of v
same_live v w records dead = ap (λ (rs : List Record). without (ids_from 1 rs) w.dead) records ∙ ap (without (ids_from 1 v.records)) dead

-- ---- ids

pub length-ids : {X : Type 0} (id : ℕ) (xs : List X) → length (ids_from id xs) ≡ length xs
length-ids id [] = refl
length-ids id (x ∷ xs) = ap suc (length-ids (suc id) xs)

-- ids of these and of more that are created
pub ids_from-append : (k : ℕ) (rs : List Record) (parent : ℕ) (bs : List Built) → ids_from k rs ++ ids_from (k + length rs) bs ≡ ids_from k (rs ++ map (record_under parent) bs)
ids_from-append k [] parent [] = refl
ids_from-append k [] parent (b ∷ bs) =
    let here : k + 0 ≡ k = omega arith in
    let rest : suc (k + 0) ≡ suc k + 0 = omega arith in
    ap (λ i. i ∷ ids_from (suc (k + 0)) bs) here ∙ ap (λ i. k ∷ ids_from i bs) rest ∙ ap (λ is. k ∷ is) (ids_from-append (suc k) [] parent bs)
ids_from-append k (r ∷ rs) parent bs =
    let same : k + suc (length rs) ≡ suc k + length rs = omega arith in
    ap (λ i. k ∷ ids_from (suc k) rs ++ ids_from i bs) same ∙ ap (λ is. k ∷ is) (ids_from-append (suc k) rs parent bs)

-- submodules that are created have the next ids
pub ids_created : (parent : ℕ) (bs : List Built) (w : World) → ids_from 1 (with_submodules parent bs w).records ≡ ids_from 1 w.records ++ ids_from (suc (length w.records)) bs
ids_created parent bs w =
    let next : 1 + length w.records ≡ suc (length w.records) = omega arith in
    sym (ids_from-append 1 w.records parent bs) ∙ ap (λ i. ids_from 1 w.records ++ ids_from i bs) next
