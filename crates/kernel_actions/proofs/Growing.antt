-- A run goes on: the lists of its world only grow.
use Rattle.std.proofs.Common.{◌≡◌, ℕ, ◌≤◌, List, [], refl, sym, ◌∙◌, subst, append-nil}
use Rattle.module_api.specs.Behaviour.{Behaviour}
use Rattle.model_questions.specs.Answers.{Answers}
use Rattle.run_semantics.specs.Ending.{ending}
use Rattle.run_semantics.specs.Laws.{GoesOn}
use Rattle.run_semantics.specs.Run.{Stage, Running, Over, world_at, after, stopped, run_to}
use Rattle.run_semantics.specs.World.{World}
use Rattle.run_semantics.proofs.Closing.{IsClosed, ending_closed}
use Rattle.run_semantics.proofs.Grown.{grown_after}
use Rattle.run_semantics.proofs.Orderly.{on_more}
use Rattle.kernel_actions.specs.Positions.{IsGrownFrom}

-- a list that stayed as it was
stays : {X : Type 0} (xs ys : List X) → ys ≡ xs → GoesOn xs ys
stays xs ys e = ([], append-nil xs ∙ sym e)

-- one growth and then another
pub growth_on : (u v w : World) → IsGrownFrom u v → IsGrownFrom v w → IsGrownFrom u w
growth_on u v w f g = record {
  records = on_more u.records v.records w.records f.records g.records;
  dead = on_more u.dead v.dead w.dead f.dead g.dead;
  started = on_more u.started v.started w.started f.started g.started;
  finished = on_more u.finished v.finished w.finished f.finished g.finished;
  changes = on_more u.changes v.changes w.changes f.changes g.changes;
  emissions = on_more u.emissions v.emissions w.emissions f.emissions g.emissions;
  scalars = on_more u.scalars v.scalars w.scalars f.scalars g.scalars;
  questions = on_more u.questions v.questions w.questions f.questions g.questions;
}

-- A RUN OF MORE EVENTS
pub run_grows : (b : Behaviour) (m : Answers) (n k : ℕ) → n ≤ k → IsGrownFrom (world_at (after b m n)) (world_at (after b m k))
run_grows b m n k h =
    let g = grown_after b m n k h in
    record { records = g.records; dead = g.dead; started = g.started; finished = g.finished; changes = g.changes; emissions = g.emissions; scalars = g.scalars; questions = g.questions }

-- the end
end_grows : (v w : World) → IsClosed v w → IsGrownFrom v w
end_grows v w c = record {
  records = stays v.records w.records c.records;
  dead = stays v.dead w.dead c.dead;
  started = stays v.started w.started c.started;
  finished = c.finished;
  changes = stays v.changes w.changes c.changes;
  emissions = c.emissions;
  scalars = c.scalars;
  questions = stays v.questions w.questions c.questions;
}

-- a run that is stopped stands where it stood
stopped_at : (s : Stage) → (stopped s).world ≡ world_at s
stopped_at (Running w) = refl
stopped_at (Over w outcome) = refl

-- A RUN OF MORE EVENTS, AND ITS END
pub ended_run_grows : (b : Behaviour) (m : Answers) (n k : ℕ) → n ≤ k → IsGrownFrom (world_at (after b m n)) (ending b m (run_to b m k)).world
ended_run_grows b m n k h =
    let last : World = (ending b m (run_to b m k)).world in
    growth_on (world_at (after b m n)) (world_at (after b m k)) last (run_grows b m n k h)
    (subst (λ (w : World). IsGrownFrom w last) (stopped_at (after b m k)) (end_grows (run_to b m k).world last (ending_closed b m (run_to b m k))))
