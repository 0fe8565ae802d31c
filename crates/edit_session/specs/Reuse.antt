-- What stays of a run when its model is edited.
use Rattle.std.specs.Prelude.{◌≡◌, ◌≤◌, ℕ, Option, Some, None}
use Rattle.module_api.specs.Behaviour.{Behaviour}
use Rattle.model_questions.specs.Answers.{Answers}
use Rattle.run_semantics.specs.Agreement.{AgreesUpTo, IsAgreement}
use Rattle.run_semantics.specs.Run.{IsReached, after, world_at}
use Rattle.run_semantics.specs.World.{World}

-- UP TO WHICH EVENT a run of the old model, of which so many events are known, is that of the new
-- one: the greatest event such that both answer all questions up to it alike; none where nothing is
-- known, or where they differ on a question of event zero
abbrev pub IsValidTo : Behaviour → Answers → Answers → Option ℕ → Option ℕ → Type 0
IsValidTo b old new None valid = valid ≡ None
IsValidTo b old new (Some known) valid =
    IsAgreement old new (world_at (after b old known)).records known
    (world_at (after b old known)).questions valid

-- The questions of this world are those of a run of a model that agrees with this one on the events
-- up to v.
pub record IsAskedUpTo (b : Behaviour) (m : Answers) (w : World) (v : ℕ) : Type 0 where
  pub origin : Answers
  pub last : ℕ
  pub within : v ≤ last
  pub reached : IsReached (after b origin last) last
  pub records : w.records ≡ (world_at (after b origin last)).records
  pub questions : w.questions ≡ (world_at (after b origin last)).questions
  pub agrees : AgreesUpTo v origin m w.records w.questions

-- the events whose questions are known, where there are any
abbrev pub IsKnown : Behaviour → Answers → World → Option ℕ → Type 0
IsKnown b m w None = Unit {0}
IsKnown b m w (Some v) = IsAskedUpTo b m w v
