-- Which scalars a run records, read by the places of what concerns a module.
use Rattle.std.specs.Prelude.{ℕ, ◌==◌, List, [], ◌++◌, length, flat_map, if◌then◌else◌}
use Rattle.model_data.specs.declared.model.Model.{Model}
use Rattle.model_questions.specs.declared.record.Record.{Record}
use Rattle.model_answers.specs.Keyed.{lines_of}
use Rattle.model_answers.specs.Answering.{type_at}
use Rattle.ned_types.specs.Flat.{statistics_of}
use Rattle.recorders.specs.declared.places.RunPlaces.{RunPlaces}
use Rattle.recorders.specs.declared.scalar_line.ScalarLine.{ScalarLine}
use Rattle.recorders.specs.Places.{of_place, places_at}
use Rattle.recorders.specs.Scalars.{recorded_line, lines_among}
use Rattle.run_semantics.specs.declared.traces.Emission.{Emission}
use Rattle.run_semantics.specs.declared.traces.Scalar.{Scalar}

-- the lines of the scalars at these places, where the module of that id recorded them
abbrev pub lines_at_places : Model → List Record → ℕ → List Scalar → List ℕ → List ScalarLine
lines_at_places m records id recorded places =
    flat_map (of_place (recorded_line m records id) recorded) places

-- the lines of all statistics of the module of that id
abbrev pub lines_of_type : Model → List Record → List Emission → ℕ → List ScalarLine
lines_of_type m records emissions id =
    lines_among m records emissions id (statistics_of (lines_of (type_at m records id)))

-- the same, where there is a place at which it was finished
abbrev pub lines_if_finished : Model → List Record → List Emission → ℕ → List ℕ → List ScalarLine
lines_if_finished m records emissions id finished =
    if length finished == 0 then [] else lines_of_type m records emissions id

-- the lines of the module of that id, by its places
abbrev pub scalars_by_places : Model → List Record → List Scalar → List Emission → RunPlaces → ℕ
    → List ScalarLine
scalars_by_places m records recorded emissions places id =
    lines_at_places m records id recorded (places_at places.recorded.items id)
    ++ lines_if_finished m records emissions id (places_at places.finished.items id)
