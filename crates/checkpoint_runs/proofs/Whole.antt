-- A run has as many events with its end as without.
use Rattle.std.proofs.Common.{◌≡◌, ℕ, ◌≤◌, refl, sym, ap, ◌∙◌, arith}
use Rattle.module_api.specs.Behaviour.{Behaviour}
use Rattle.model_questions.specs.Answers.{Answers}
use Rattle.run_semantics.specs.declared.outcome.Outcome.{Outcome}
use Rattle.run_semantics.specs.Run.{Stage, Running, Over, Ran, after, run_to, stopped, world_at}
use Rattle.run_semantics.specs.World.{World}
use Rattle.run_semantics.proofs.Closing.{ending_closed}
use Rattle.run_semantics.proofs.Counts.{count_at_most}
use Rattle.checkpoint_runs.specs.Running.{whole_run}

pub stopped_world : (s : Stage) → (stopped s).world ≡ world_at s
stopped_world (Running w) = refl
stopped_world (Over w outcome) = refl

-- a run has as many events with its end as without
pub whole_count : (b : Behaviour) (m : Answers) (limit : ℕ) (w : World) (outcome : Outcome) → whole_run b m limit w outcome → w.count ≡ (run_to b m limit).world.count
whole_count b m limit w outcome whole = ap (λ (r : Ran). r.world.count) (sym whole) ∙ (ending_closed b m (run_to b m limit)).count

-- a run executes no more events than its limit
pub run_within : (b : Behaviour) (m : Answers) (limit : ℕ) → (run_to b m limit).world.count ≤ limit
run_within b m limit = omega (arith, count_at_most b m limit, ap (λ (w : World). w.count) (stopped_world (after b m limit)))
