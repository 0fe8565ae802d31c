-- Where a hop leads stays when more modules are created, and is a module that was created.
use Rattle.std.proofs.Common.{◌≡◌, ℕ, zero, suc, ◌+◌, ◌≤◌, ◌<◌, ◌==◌, length, arith, Bool, true, false, List, [], ◌∷◌, ◌++◌, Option, Some, None, refl, ap, ◌∙◌, slice_get, if◌then◌else◌}
use Rattle.std.specs.Option.{option_and_then}
use Rattle.model_questions.specs.declared.answer.Neighbour.{Neighbour}
use Rattle.model_questions.specs.declared.answer.Neighbour.TheVariants.{Itself, Around, Beside, Inside}
use Rattle.model_questions.specs.declared.record.Record.{Record}
use Rattle.model_questions.specs.Hops.{id_around, neighbour_id}
use Rattle.model_questions.proofs.AnswerLemmas.{AreNested, parent_within}
use Rattle.model_questions.specs.Records.{record_at, is_named, named_from, built_id}

-- the first of that name stays the first
named_more : (first parent : ℕ) (name : List ℕ) (index : Option ℕ) (rs more : List Record) (k : ℕ) → named_from first parent name index rs ≡ Some k → named_from first parent name index (rs ++ more) ≡ Some k
named_more first parent name index [] more k e = cc
named_more first parent name index (r ∷ rs) more k e = by (is_named parent name index r) e (named_more (suc first) parent name index rs more k)
  where
    by : (t : Bool) → (if t then Some first else named_from (suc first) parent name index rs) ≡ Some k → (named_from (suc first) parent name index rs ≡ Some k → named_from (suc first) parent name index (rs ++ more) ≡ Some k)
        → (if t then Some first else named_from (suc first) parent name index (rs ++ more)) ≡ Some k
    by true f later = f
    by false f later = later f

-- a record that is there stays
got_more : (rs more : List Record) (i : ℕ) (r : Record) → slice_get rs i ≡ Some r → slice_get (rs ++ more) i ≡ Some r
got_more [] more i r e = cc
got_more (x ∷ xs) more zero r e = e
got_more (x ∷ xs) more (suc i) r e = got_more xs more i r e

there_more : (rs more : List Record) (id : ℕ) (r : Record) → record_at rs id ≡ Some r → record_at (rs ++ more) id ≡ Some r
there_more rs more zero r e = cc
there_more rs more (suc i) r e = got_more rs more i r e

-- what is found by a record that is there
by_record : (f g : Record → Option ℕ) (o p : Option Record) (k : ℕ) → ((r : Record) → o ≡ Some r → p ≡ Some r) → ((r : Record) → f r ≡ Some k → g r ≡ Some k) → option_and_then f o ≡ Some k → option_and_then g p ≡ Some k
by_record f g None p k h l e = cc
by_record f g (Some r) p k h l e = ap (option_and_then g) (h r refl) ∙ l r e

pub neighbour_more : (records more : List Record) (id found : ℕ) (n : Neighbour) → neighbour_id records id n ≡ Some found → neighbour_id (records ++ more) id n ≡ Some found
neighbour_more rs more id k Itself e = e
neighbour_more rs more id k Around e = by_record _ _ (record_at rs id) (record_at (rs ++ more) id) k (λ r h. there_more rs more id r h) (λ r h. h) e
neighbour_more rs more id k (Beside name index) e =
    by_record _ _ (record_at rs id) (record_at (rs ++ more) id) k (λ r h. there_more rs more id r h) (λ r h. named_more 1 r.parent name index rs more k h) e
neighbour_more rs more id k (Inside name index) e = named_more 1 id name index rs more k e

-- the submodule that is found is one of the records
pub named_within : (first parent : ℕ) (name : List ℕ) (index : Option ℕ) (rs : List Record) (k : ℕ) → named_from first parent name index rs ≡ Some k → k < first + length rs
named_within first parent name index [] k e = cc
named_within first parent name index (r ∷ rs) k e = by (is_named parent name index r) e (named_within (suc first) parent name index rs k)
  where
    by : (t : Bool) → (if t then Some first else named_from (suc first) parent name index rs) ≡ Some k → (named_from (suc first) parent name index rs ≡ Some k → k < suc first + length rs) → k < first + suc (length rs)
    by true f later = let same : first ≡ k = cc in omega (arith, same)
    by false f later = let l = later f in omega (arith, l)

around_within : (c : Bool) (parent n k : ℕ) → parent ≤ n → (if c then None else Some parent) ≡ Some k → k ≤ n
around_within true parent n k l e = cc
around_within false parent n k l e = let same : parent ≡ k = cc in omega (arith, l, same)

found_by : (f : Record → Option ℕ) (o : Option Record) (n k : ℕ) → ((r : Record) → o ≡ Some r → f r ≡ Some k → k ≤ n) → option_and_then f o ≡ Some k → k ≤ n
found_by f None n k h e = cc
found_by f (Some r) n k h e = h r refl e

-- A HOP LEADS TO A MODULE THAT WAS CREATED, from one that was
pub neighbour_within : (records : List Record) (id k : ℕ) (n : Neighbour) → AreNested 0 records → id ≤ length records → neighbour_id records id n ≡ Some k → k ≤ length records
neighbour_within rs id k Itself h l e = let same : id ≡ k = cc in omega (arith, l, same)
neighbour_within rs id k Around h l e = found_by id_around (record_at rs id) (length rs) k (λ r f g. around_within (r.parent == 0) r.parent (length rs) k (parent_within rs id r h l f) g) e
neighbour_within rs id k (Beside name index) h l e =
    found_by (λ (r : Record). built_id rs r.parent name index) (record_at rs id) (length rs) k (λ r f g. let m = named_within 1 r.parent name index rs k g in omega (arith, m)) e
neighbour_within rs id k (Inside name index) h l e = let m = named_within 1 id name index rs k e in omega (arith, m)
