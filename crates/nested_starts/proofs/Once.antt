-- In each world of a run no id lives twice, and each record is after that of the module around it.
use Rattle.std.proofs.Common.{◌≢◌, ℕ, suc, ◌≤◌, List, [], ◌∷◌, arith, length, not}
use Rattle.event_set.proofs.Order.{each_map}
use Rattle.module_api.specs.Behaviour.{Behaviour}
use Rattle.model_questions.specs.declared.record.Record.{Record}
use Rattle.model_questions.specs.Answers.{Answers}
use Rattle.model_questions.proofs.AnswerLemmas.{AreNested}
use Rattle.run_semantics.specs.Laws.{Each}
use Rattle.run_semantics.specs.Run.{world_at, after}
use Rattle.run_semantics.specs.Subtree.{among, ids_from}
use Rattle.run_semantics.specs.World.{World, live_of}
use Rattle.run_semantics.proofs.Alive.{each_among, live_within}
use Rattle.run_semantics.proofs.Fitting.{fits_after}
use Rattle.nested_starts.specs.Apart.{AreApart}
use Rattle.nested_starts.proofs.Apart.{AreBehind, AreOnce, kept_apart}

-- the records of a world
behind_from : (k : ℕ) (rs : List Record) → AreNested k rs → AreBehind (suc k) rs
behind_from k [] h = tt
behind_from k (r ∷ rs) h = (omega (arith, h.0), behind_from (suc k) rs h.1)

-- ids count on
ids_least : (k : ℕ) (rs : List Record) → Each (λ id. k ≤ id) (ids_from k rs)
ids_least k [] = tt
ids_least k (r ∷ rs) = (omega arith, each_map (λ id. suc k ≤ id) (λ id. k ≤ id) (ids_from (suc k) rs) (λ id h. omega (arith, h)) (ids_least (suc k) rs))

ids_apart : (k : ℕ) (rs : List Record) → AreApart (ids_from k rs)
ids_apart k [] = tt
ids_apart k (r ∷ rs) = (each_map (λ id. suc k ≤ id) (λ id. id ≢ k) (ids_from (suc k) rs) (λ id h e. omega (arith, h, e)) (ids_least (suc k) rs), ids_apart (suc k) rs)

-- those that live are some of all that were created
pub once_after : (b : Behaviour) (m : Answers) (n : ℕ) → let w = world_at (after b m n) in AreOnce w.records (live_of w)
once_after b m n =
    let w : World = world_at (after b m n) in
    record {
      behind = behind_from 0 w.records (fits_after b m n).nested;
      apart = kept_apart (λ id. not (among id w.dead)) (ids_from 1 w.records) (ids_apart 1 w.records);
      there = each_among (λ id. id ≤ length w.records) (live_of w) (live_within w);
    }
