-- Where a model ends the nesting, the line of each module ends at the network.
use Rattle.std.proofs.Common.{◌≡◌, inl, inr, ℕ, zero, suc, ◌≤◌, List, [], ◌∷◌, Option, Some, None, refl, sym, subst, arith, length}
use Rattle.module_api.specs.Behaviour.{Behaviour}
use Rattle.model_questions.specs.declared.record.Record.{Record}
use Rattle.model_questions.specs.Answers.{Answers}
use Rattle.model_questions.specs.Records.{Lineage, lineage_up, place_of, record_at, with_those_around}
use Rattle.run_semantics.specs.Laws.{Each}
use Rattle.run_semantics.specs.Run.{world_at, after}
use Rattle.run_semantics.specs.World.{World, live_of}
use Rattle.nested_starts.specs.Levels.{ParentIs, IsWithin, EndsNesting, EndsAtNetwork}
use Rattle.nested_starts.proofs.Apart.{AreBehind}
use Rattle.nested_starts.proofs.Ends.{nested_after}
use Rattle.nested_starts.proofs.Once.{once_after}

-- no module has the id zero
none_up : (depth : ℕ) (rs : List Record) → lineage_up depth rs 0 ≡ []
none_up zero rs = refl
none_up (suc depth) rs = refl

-- the line of the network is its record alone
network_ends : (depth : ℕ) (rs : List Record) → 1 ≤ length rs → AreBehind 1 rs → EndsAtNetwork (lineage_up (suc depth) rs 1)
network_ends depth [] l h = absurd (omega (arith, l))
network_ends depth (r ∷ rs) l h =
    let none : 0 ≡ r.parent = omega (arith, h.0) in
    subst (λ id. EndsAtNetwork (r ∷ lineage_up depth (r ∷ rs) id)) none (subst (λ line. EndsAtNetwork (r ∷ line)) (sym (none_up depth (r ∷ rs))) (sym none))

one_more : (r : Record) (line : Lineage) → EndsAtNetwork line → EndsAtNetwork (r ∷ line)
one_more r [] h = absurd h
one_more r (s ∷ rs) h = h

-- that of a module which stands so many levels down at most
line_ends : (depth : ℕ) (rs : List Record) (live : List ℕ) (id : ℕ) → 1 ≤ length rs → AreBehind 1 rs → IsWithin rs live depth id → EndsAtNetwork (lineage_up depth rs id)
line_ends zero rs live id l b h = absurd h
line_ends (suc depth) rs live id l b (inl e) = subst (λ n. EndsAtNetwork (lineage_up (suc depth) rs n)) (sym e) (network_ends depth rs l b)
line_ends (suc depth) rs live id l b (inr h) = by (record_at rs id) h.1 (λ r. line_ends depth rs live r.parent l b)
  where
    by : (o : Option Record) → ParentIs (IsWithin rs live depth) o → ((r : Record) → IsWithin rs live depth r.parent → EndsAtNetwork (lineage_up depth rs r.parent)) → EndsAtNetwork (with_those_around (lineage_up depth rs) o)
    by None g later = absurd g
    by (Some r) g later = one_more r (lineage_up depth rs r.parent) (later r g)

-- where a module stands so, there is one
one_there : (rs : List Record) (live : List ℕ) (depth id : ℕ) → id ≤ length rs → IsWithin rs live (suc depth) id → 1 ≤ length rs
one_there rs live depth id l (inl e) = omega (arith, l, e)
one_there rs live depth zero l (inr h) = absurd h.1
one_there rs live depth (suc i) l (inr h) = omega (arith, l)

place_ends : (rs : List Record) (live : List ℕ) (id : ℕ) → AreBehind 1 rs → id ≤ length rs → IsWithin rs live 32 id → EndsAtNetwork (place_of rs id)
unfolding place_of
place_ends rs live id b l h = line_ends 32 rs live id (one_there rs live 31 id l h) b h

each_ends : (rs : List Record) (live ids : List ℕ) → AreBehind 1 rs → Each (λ id. id ≤ length rs) ids → Each (IsWithin rs live 32) ids → Each (λ id. EndsAtNetwork (place_of rs id)) ids
each_ends rs live [] b f g = tt
each_ends rs live (id ∷ ids) b f g = (place_ends rs live id b f.0 g.0, each_ends rs live ids b f.1 g.1)

pub ends_after : (b : Behaviour) (m : Answers) → EndsNesting m → (n : ℕ) → let w = world_at (after b m n) in Each (λ id. EndsAtNetwork (place_of w.records id)) (live_of w)
ends_after b m ends n =
    let w : World = world_at (after b m n) in
    let once = once_after b m n in
    each_ends w.records (live_of w) (live_of w) once.behind once.there (nested_after b m ends n)
