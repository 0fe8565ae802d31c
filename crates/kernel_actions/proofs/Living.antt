-- The ids of the modules that were created.
use Rattle.std.proofs.Common.{◌≡◌, ◌&&◌, ◌+◌, ◌<◌, ◌≤◌, ℕ, suc, Bool, true, false, true≢false, List, [], ◌∷◌, length, nat_le, nat_lt, refl, sym, ◌∙◌, arith, subst, Option, Some, None, IfSome, if◌then◌else◌}
use Rattle.std.proofs.lemmas.Bool.{le-leb, leb-true, lt-ltb, ltb-true}
use Rattle.model_questions.specs.declared.record.Record.{Record}
use Rattle.run_semantics.specs.Routes.{first_from, is_at}
use Rattle.run_semantics.specs.Subtree.{among, ids_from}
use Rattle.run_semantics.specs.World.{World}
use Rattle.kernel_actions.specs.Created.{IsCreated}
use Rattle.run_semantics.proofs.Alive.{and_both, and_of, ids_above, ids_there, ids_within}

-- they are those from 1 to their number
pub is_created : (id : ℕ) (rs : List Record) → among id (ids_from 1 rs) ≡ (nat_lt 0 id && nat_le id (length rs))
is_created id rs = by (among id (ids_from 1 rs)) (nat_lt 0 id && nat_le id (length rs)) refl refl
  where
    by : (a t : Bool) → among id (ids_from 1 rs) ≡ a → (nat_lt 0 id && nat_le id (length rs)) ≡ t → among id (ids_from 1 rs) ≡ (nat_lt 0 id && nat_le id (length rs))
    by true t a e =
        let above = ids_above id 1 rs a in
        let within = ids_within id 1 rs a in
        a ∙ sym (and_of (nat_lt 0 id) (nat_le id (length rs)) (lt-ltb 0 id (omega (arith, above))) (le-leb id (length rs) (omega (arith, within))))
    by false true a e =
        let both = and_both (nat_lt 0 id) (nat_le id (length rs)) e in
        let first = ltb-true 0 id both.0 in
        let last = leb-true id (length rs) both.1 in
        absurd (true≢false (sym (ids_there id 1 rs (omega (arith, first)) (omega (arith, last))) ∙ a))
    by false false a e = a ∙ sym e

-- the first one that passes a test was created
first_within : (test : ℕ → Bool) (i : ℕ) (rs : List Record) → IfSome (first_from test i rs) (λ id. (i ≤ id) × (id < i + length rs))
first_within test i [] = tt
first_within test i (r ∷ rs) = by (test i) (first_from test (suc i) rs) (first_within test (suc i) rs)
  where
    by : (t : Bool) (o : Option ℕ) → IfSome o (λ id. (suc i ≤ id) × (id < suc i + length rs)) → IfSome (if t then Some i else o) (λ id. (i ≤ id) × (id < i + suc (length rs)))
    by true o h = (omega arith, omega arith)
    by false None h = tt
    by false (Some id) h = (omega (arith, h.0), omega (arith, h.1))

-- the module of a path was created
pub first_created : (path : List ℕ) (w : World) (found : Option ℕ) → found ≡ first_from (is_at path w) 1 w.records → IfSome found (λ id. IsCreated id w)
first_created path w found e = by found (subst (λ o. IfSome o (λ id. (1 ≤ id) × (id < 1 + length w.records))) (sym e) (first_within (is_at path w) 1 w.records))
  where
    by : (o : Option ℕ) → IfSome o (λ id. (1 ≤ id) × (id < 1 + length w.records)) → IfSome o (λ id. IsCreated id w)
    by None h = tt
    by (Some id) h = (omega (arith, h.0), omega (arith, h.1))
