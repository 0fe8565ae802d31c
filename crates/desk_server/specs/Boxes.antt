-- The boxes that a run needs, and how many turns it takes at most to get them.
use Rattle.std.specs.Prelude.{ℕ, suc, ◌+◌, ◌-◌, ◌*◌, ◌^◌, List, [], ◌∷◌, Option, Some, None}
use Rattle.std.specs.Prelude.{if◌then◌else◌}
use Rattle.module_api.specs.Behaviour.{Behaviour}
use Rattle.model_data.specs.declared.model.Model.{Model}
use Rattle.model_questions.specs.Answers.{Answers}
use Rattle.model_answers.specs.Answering.{answers_of}
use Rattle.run_semantics.specs.Perform.{Flow, On, Stopped, Broken}
use Rattle.run_semantics.specs.Run.{Over, Part, Running, Stage, after, prepared, standing, wanted}
use Rattle.run_semantics.specs.Run.{world_at}
use Rattle.kernel.specs.Seats.{needs}
use Rattle.kernel_boxes.specs.Staying.{is_held}
use Rattle.checkpoint_runs.specs.Positions.{start_of}
use Rattle.checkpoint_runs.specs.Running.{kept_back}
use Rattle.checkpoint_runs.specs.declared.phases.AtSetup.{AtSetup}
use Rattle.checkpoint_runs.specs.declared.phases.AtSetup.TheVariants.{Anew, Filling, Refused}
use Rattle.checkpoint_runs.specs.declared.phases.Resumed.{Resumed}

-- how many of these modules have none of these boxes
abbrev pub lacking : List Part → List Part → ℕ
lacking boxes [] = 0
lacking boxes (p ∷ ps) = if is_held p.id boxes then lacking boxes ps else suc (lacking boxes ps)

-- how many boxes the start of the network needs besides these
abbrev pub lacking_after : Flow → List Part → ℕ
lacking_after (On w) boxes = lacking boxes (needs w)
lacking_after (Stopped w) boxes = 0
lacking_after (Broken w path f) boxes = 0

abbrev pub boxes_lacking : Model → List Part → ℕ
boxes_lacking m boxes = lacking_after (prepared (answers_of m)) boxes

-- how many a run needs that goes back to that event
abbrev pub lacking_back : Behaviour → Model → ℕ → List Part → ℕ
lacking_back b m event boxes =
    lacking boxes (standing (world_at (after b (answers_of m) event)).modules)

-- how many the next event needs, of the modules that it starts
abbrev pub lacking_next : Answers → Stage → List Part → ℕ
lacking_next m (Running w) boxes = lacking boxes (wanted m w)
lacking_next m (Over w outcome) boxes = 0

-- no more modules live at any moment, and so no event needs more boxes
abbrev pub most_boxes : ℕ
most_boxes = 65536

-- HOW MANY TURNS A RUN TAKES AT MOST. It is a measure that falls from each turn to the next, and
-- says no more than that a run comes to an end: none takes anything like as many.

-- for the events up to the limit, from that one on: before each of them a turn for each box that it
-- may need, and one more
abbrev pub turns_from : ℕ → ℕ → ℕ
turns_from limit event = (limit - event) * (most_boxes + 1)

-- where it begins with setup: a turn for each box that is missing yet, and one more where a box may
-- be declined
abbrev pub left_at_setup : Model → AtSetup → List Part → ℕ
left_at_setup m Anew supplied = boxes_lacking m [] + 1
left_at_setup m Filling supplied = boxes_lacking m supplied + 1
left_at_setup m Refused supplied = 0

-- of one that begins, with setup or at a position
abbrev pub left_anew : Behaviour → Model → ℕ → AtSetup → Option ℕ → List Part → List Part → ℕ
left_anew b m limit at None boxes supplied = left_at_setup m at supplied + turns_from limit 0
left_anew b m limit at (Some event) boxes supplied =
    lacking_back b m event (kept_back b (answers_of m) event boxes) + 1 + turns_from limit event

-- of one that goes on after so many events: once a box was declined it waits no more
abbrev pub left_onwards : Behaviour → Model → ℕ → Resumed → List Part → ℕ
left_onwards b m limit r supplied = if r.declined then 0
    else lacking_next (answers_of m) (after b (answers_of m) r.count) supplied + 1
    + turns_from limit (suc r.count)

abbrev pub left_of : Behaviour → Model → ℕ → AtSetup → Option Resumed → List ℕ → List Part
    → List Part → ℕ
left_of b m limit at (Some r) stored boxes supplied = left_onwards b m limit r supplied
left_of b m limit at None stored boxes supplied =
    left_anew b m limit at (start_of limit stored) boxes supplied

-- no run has more left than this, as limits are below 2 ^ 64
abbrev pub most_turns : ℕ
most_turns = 2 ^ 64 * (most_boxes + 1) + most_boxes + 1
