-- Which scalars a run records.
-- OMNeT++ Simulation Manual, "Result Recording".
use Rattle.std.specs.Prelude.{ℕ, ◌+◌, ℤ, Bool, List, [], ◌∷◌, ◌++◌, flat_map, Option, Some, None}
use Rattle.std.specs.Prelude.{◌==◌, if◌then◌else◌}
use Rattle.std.specs.List.{list_any}
use Rattle.ini_trees.specs.declared.lines.IniEntry.{IniEntry}
use Rattle.model_data.specs.declared.model.Model.{Model}
use Rattle.model_questions.specs.declared.record.Record.{Record}
use Rattle.model_answers.specs.Keyed.{lines_of}
use Rattle.model_answers.specs.Answering.{type_at}
use Rattle.model_data.specs.Models.{entries_in}
use Rattle.model_questions.specs.Records.{path_of}
use Rattle.ned_trees.specs.declared.modes.Mode.{Mode}
use Rattle.ned_trees.specs.declared.declarations.Statistic.{Statistic}
use Rattle.ned_types.specs.Flat.{statistics_of}
use Rattle.recorders.specs.declared.scalar_line.ScalarLine.{ScalarLine}
use Rattle.recorders.specs.Selection.{records_scalar_named, result_name, selected_modes}
use Rattle.recorders.specs.Statistics.{value_in, values_heard}
use Rattle.recorders.specs.Vectors.{vector_of}
use Rattle.run_semantics.specs.declared.traces.Emission.{Emission}
use Rattle.run_semantics.specs.declared.traces.Scalar.{Scalar}

-- a scalar of that name and value of the module of that path: a line, where the option lets it be
-- recorded
abbrev pub line_of : List IniEntry → List ℕ → List ℕ → ℤ → List ScalarLine
line_of entries path name value =
    if records_scalar_named entries path name
    then record { path = path; name = name; value = value } ∷ [] else []

-- the line of a scalar that a module recorded, where it is the module of that id
abbrev pub recorded_line : Model → List Record → ℕ → Scalar → List ScalarLine
recorded_line m records id s =
    if s.id == id then line_of (entries_in m) (path_of records id) s.name s.value else []

-- the lines of the scalars that the module of that id recorded, in the order in which it did
abbrev pub recorded_lines : Model → List Record → ℕ → List Scalar → List ScalarLine
recorded_lines m records id recorded = flat_map (recorded_line m records id) recorded

-- the line of a value, where there is one
abbrev pub line_of_value : List IniEntry → List ℕ → List ℕ → Option ℤ → List ScalarLine
line_of_value entries path name None = []
line_of_value entries path name (Some value) = line_of entries path name value

-- what a statistic with these values has in a mode, in the name of both
abbrev pub mode_line : List IniEntry → List ℕ → List ℕ → List ℤ → Mode → List ScalarLine
mode_line entries path statistic values mode =
    line_of_value entries path (result_name statistic mode) (value_in mode values)

-- the same in each of these modes
abbrev pub mode_lines : List IniEntry → List ℕ → List ℕ → List ℤ → List Mode → List ScalarLine
mode_lines entries path statistic values modes =
    flat_map (mode_line entries path statistic values) modes

-- the lines of a statistic of the module of that id, one for each mode in which the options let it
-- be recorded
unfoldable pub statistic_lines : Model → List Record → List Emission → ℕ → Statistic
    → List ScalarLine
statistic_lines m records emissions id s =
    mode_lines (entries_in m) (path_of records id) s.name
    (values_heard records emissions (vector_of records id s))
    (selected_modes (entries_in m) (path_of records id) s)

-- the lines of these statistics of the module of that id
abbrev pub lines_among : Model → List Record → List Emission → ℕ → List Statistic → List ScalarLine
lines_among m records emissions id statistics =
    flat_map (statistic_lines m records emissions id) statistics

-- whether the module of that id was finished
abbrev pub is_finished : List ℕ → ℕ → Bool
is_finished finished id = list_any (λ f. f == id) finished

-- the lines of the statistics of the module of that id, in the order of its type's statistics: it
-- has some only where it was finished
abbrev pub statistics_at : Model → List Record → List ℕ → List Emission → ℕ → List ScalarLine
statistics_at m records finished emissions id =
    if is_finished finished id then lines_among m records emissions id
    (statistics_of (lines_of (type_at m records id))) else []

-- the lines of the module of that id: those of the scalars that it recorded, and after them those
-- of its statistics
abbrev pub scalars_at : Model → List Record → List ℕ → List Scalar → List Emission → ℕ
    → List ScalarLine
scalars_at m records finished recorded emissions id =
    recorded_lines m records id recorded ++ statistics_at m records finished emissions id

-- the lines of the modules with these records, whose ids count up from this one
abbrev pub scalars_from : Model → List Record → List ℕ → List Scalar → List Emission → ℕ
    → List Record → List ScalarLine
scalars_from m records finished recorded emissions id [] = []
scalars_from m records finished recorded emissions id (r ∷ rs) =
    scalars_at m records finished recorded emissions id
    ++ scalars_from m records finished recorded emissions (id + 1) rs

-- THE SCALARS that a run records, with the modules of these records, of which these were finished,
-- with what these modules recorded and these emissions: by rising id of the module, first what it
-- recorded, then, if it was finished, what the options let be recorded of its statistics
abbrev pub scalars_of : Model → List Record → List ℕ → List Scalar → List Emission → List ScalarLine
scalars_of m records finished recorded emissions =
    scalars_from m records finished recorded emissions 1 records
