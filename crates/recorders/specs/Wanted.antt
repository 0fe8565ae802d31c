-- The modules of whose statistics something is recorded.
use Rattle.std.specs.Prelude.{◌≡◌, ℕ, ◌+◌, ◌<◌, Bool, false, List, Option, Some, None, length}
use Rattle.std.specs.Prelude.{slice_get}
use Rattle.std.specs.List.{list_any}
use Rattle.ini_trees.specs.declared.lines.IniEntry.{IniEntry}
use Rattle.model_data.specs.declared.model.Model.{Model}
use Rattle.model_questions.specs.declared.record.Record.{Record}
use Rattle.model_answers.specs.Keyed.{lines_of}
use Rattle.model_answers.specs.Answering.{type_at}
use Rattle.model_data.specs.Models.{entries_in}
use Rattle.model_questions.specs.Records.{path_of}
use Rattle.ned_trees.specs.declared.declarations.Statistic.{Statistic}
use Rattle.ned_types.specs.Flat.{statistics_of}
use Rattle.recorders.specs.Selection.{records_scalars, records_vector}
use Rattle.recorders.specs.declared.wanted.Output.{Output}
use Rattle.recorders.specs.declared.wanted.Output.TheVariants.{Vector, Scalars}

-- whether the options let the result files have it of a statistic of the module of that path
abbrev pub has_output : Output → List IniEntry → List ℕ → Statistic → Bool
has_output Vector entries path s = records_vector entries path s
has_output Scalars entries path s = records_scalars entries path s

-- whether they let them have it of one of these statistics
abbrev pub has_output_among : Output → List IniEntry → List ℕ → List Statistic → Bool
has_output_among output entries path statistics =
    list_any (has_output output entries path) statistics

-- WHETHER A MODULE, of that id, HAS PLACES noted for it: the options let the result files have
-- it of one of its type's statistics
abbrev pub wants : Output → Model → List Record → ℕ → Bool
wants output m records id =
    has_output_among output (entries_in m) (path_of records id)
    (statistics_of (lines_of (type_at m records id)))

abbrev pub is_on : Option Bool → Bool
is_on None = false
is_on (Some on) = on

-- whether the module of that id is one of those that are wanted
abbrev pub is_wanted : List Bool → ℕ → Bool
is_wanted wanted id = is_on (slice_get wanted id)

-- for each id of a module whether it is wanted
abbrev pub AreWanted : Output → Model → List Record → List Bool → Type 0
AreWanted output m records wanted =
    (length wanted ≡ length records + 1)
    × ((id : ℕ) → id < length records + 1 → is_wanted wanted id ≡ wants output m records id)
