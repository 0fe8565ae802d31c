-- What is written of the files of a session.
use Rattle.std.specs.Prelude.{◌≡◌, ℕ, List, Option, Some, None, Result, Ok, Err, option_map}
use Rattle.module_api.specs.Behaviour.{Behaviour}
use Rattle.model_data.specs.declared.model.Model.{Model}
use Rattle.model_answers.specs.Answering.{answers_of}
use Rattle.result_files.specs.Files.{files_of, scalar_text_of, vector_text_of}
use Rattle.result_files.specs.declared.files.ResultFiles.{ResultFiles}
use Rattle.result_lines.specs.Taken.{Taken}
use Rattle.result_lines.specs.Written.{IsWritten}
use Rattle.result_lines.specs.declared.writer.Device.{Device}
use Rattle.run_semantics.specs.World.{World}
use Rattle.edit_session.specs.Editing.{Completed}
use Rattle.checkpoint_runs.specs.Running.{fresh_run}
use Rattle.edit_session.specs.declared.session.FileFault.{FileFault}
use Rattle.edit_session.specs.declared.session.FileFault.TheVariants as fault

-- what is known of the result files of a run of the model that left this world, before they are
-- written
abbrev pub files_in : Model → World → ResultFiles
files_in m w = files_of m w.records w.finished w.scalars w.emissions

-- the same of a fresh run of the model to that limit
abbrev pub files_of_run : Behaviour → Model → ℕ → ResultFiles
files_of_run b m limit = files_in m (fresh_run b (answers_of m) limit).world

-- THE SCALAR FILE of a fresh run of the model to that limit
abbrev pub scalars_of_run : Behaviour → Model → ℕ → List ℕ
scalars_of_run b m limit =
    let world = (fresh_run b (answers_of m) limit).world in
    scalar_text_of m world.records world.finished world.scalars world.emissions

-- THE VECTOR FILE of a fresh run of the model to that limit
abbrev pub vectors_of_run : Behaviour → Model → ℕ → List ℕ
vectors_of_run b m limit =
    let world = (fresh_run b (answers_of m) limit).world in
    vector_text_of m world.records world.emissions

-- what the files of the last run need, where one is done
abbrev pub files_of_last : Behaviour → Model → Option Completed → Option ResultFiles
files_of_last b m last = option_map (λ (d : Completed). files_of_run b m d.limit) last

-- A run is done, and these are what its files need.
abbrev pub AreFilesOf : Behaviour → Model → Option Completed → ResultFiles → Type 0
AreFilesOf b m last files = files_of_last b m last ≡ Some files

-- All of the text was written, and the device did not fail; or it failed once, and took as many of
-- the text's first bytes as the answer says, and not all; or memory ran out before it took any.
abbrev pub TextWritten : Taken → Taken → List ℕ → Result Unit FileFault → Type 0
TextWritten before after text (Ok u) = IsWritten before after text (Ok u)
TextWritten before after text (Err (fault.Device k)) =
    IsWritten before after text (Err (record { written = k }))
TextWritten before after text (Err (fault.NoMemory error)) =
    (after.bytes ≡ before.bytes) × (after.failures ≡ before.failures)
TextWritten before after text (Err fault.NotDone) = ⊥

-- what a call answers of a device that failed
abbrev pub written_as : Result Unit Device → Result Unit FileFault
written_as (Ok u) = Ok u
written_as (Err device) = Err (fault.Device device.written)

-- Where a run is done the text of its file is written, which is known by the run's limit; where
-- none is, nothing.
abbrev pub FileWritten : (ℕ → List ℕ) → Option Completed → Taken → Taken
    → Result Unit FileFault → Type 0
FileWritten text_of None before after result =
    (result ≡ Err fault.NotDone) × (after.bytes ≡ before.bytes) × (after.failures ≡ before.failures)
FileWritten text_of (Some last) before after result =
    TextWritten before after (text_of last.limit) result

-- A run is done, and the text of its file is written.
abbrev pub IsFileWritten : (ℕ → List ℕ) → Option Completed → Taken → Taken
    → Result Unit Device → Type 0
IsFileWritten text_of None before after result = ⊥
IsFileWritten text_of (Some last) before after result =
    IsWritten before after (text_of last.limit) result
