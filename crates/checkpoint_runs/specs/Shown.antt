-- What calls show of modules, kept from one run to the next.
use Rattle.std.specs.Prelude.{List}
use Rattle.model_questions.specs.Answers.{Answers}
use Rattle.model_questions.specs.declared.record.Record.{Record}
use Rattle.kernel_call_views.specs.Tables.{AreShown}
use Rattle.kernel_call_views.specs.declared.CallViews.{CallViews}
use Rattle.checkpoint_runs.specs.declared.phases.Point.{Point}
use Rattle.checkpoint_runs.specs.declared.phases.Point.TheVariants.{Setup, Position, Start}
use Rattle.checkpoint_runs.specs.declared.phases.Progress.{Progress}
use Rattle.checkpoint_runs.specs.declared.phases.Progress.TheVariants as progress

-- nothing is said of a run that waits where it begins
abbrev pub IsShownAt : Answers → List Record → CallViews → Point → Type 0
IsShownAt m records table Setup = Unit {0}
IsShownAt m records table Position = Unit {0}
IsShownAt m records table (Start k id) = AreShown m records table

-- after a run that is done, or waits for a start event, the table is right for its modules
abbrev pub IsShownAfter : Answers → List Record → CallViews → Progress → Type 0
IsShownAfter m records table (progress.Waits wait) = IsShownAt m records table wait.at
IsShownAfter m records table (progress.Done ended) = AreShown m records table
