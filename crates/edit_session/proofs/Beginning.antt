-- A session without a run has no boxes.
use Rattle.std.proofs.Common.{◌≡◌, ℕ, List, [], None, ap}
use Rattle.checkpoints.specs.Stored.{begun, Timeline}
use Rattle.model_data.specs.declared.model.Model.{Model}
use Rattle.run_semantics.specs.World.{World, empty}
use Rattle.run_semantics.specs.Run.{Part, standing}
use Rattle.checkpoint_runs.specs.declared.phases.Phase.TheVariants.{Idle}
use Rattle.edit_session.specs.Editing.{Editing, fresh_editing}

-- a session without a run, with these boxes
abbrev begun_with : Model → List Part → Timeline ℕ → Editing
begun_with m boxes positions = record { model = m; done = None; phase = Idle; boxes = boxes; supplied = []; known = None; positions = positions }

pub begins_fresh : (m : Model) (w : World) (interval : ℕ) → w ≡ empty → begun_with m (standing w.modules) (begun interval) ≡ fresh_editing m interval
begins_fresh m w interval e = ap (λ (u : World). begun_with m (standing u.modules) (begun interval)) e
