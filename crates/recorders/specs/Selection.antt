-- What the per-object options let be recorded.
-- OMNeT++ Simulation Manual, "Configuring Result Collection", "Selecting Recording Modes".
use Rattle.std.specs.Prelude.{ℕ, Bool, true, false, ◌&&◌, List, [], ◌∷◌, ◌++◌, fold, Option, Some}
use Rattle.std.specs.Prelude.{codes, if◌then◌else◌}
use Rattle.std.specs.List.{list_any}
use Rattle.ini_trees.specs.declared.lines.IniEntry.{IniEntry}
use Rattle.ini_trees.specs.declared.entry.ModeItem.{ModeItem}
use Rattle.ini_trees.specs.declared.entry.ModeItem.TheVariants as item
use Rattle.ini_trees.specs.declared.entry.ObjectOption.{ObjectOption}
use Rattle.ini_trees.specs.declared.entry.ObjectOption.TheVariants as object
use Rattle.ini_trees.specs.Entries.{object_for}
use Rattle.model_questions.specs.Records.{path_under}
use Rattle.ned_trees.specs.Modes.{mode_name}
use Rattle.ned_trees.specs.declared.modes.Mode.{Mode}
use Rattle.ned_trees.specs.declared.modes.Mode.TheVariants as mode
use Rattle.ned_trees.specs.declared.declarations.RecordedMode.{RecordedMode}
use Rattle.ned_trees.specs.declared.declarations.Statistic.{Statistic}
use Rattle.recorders.specs.Modes.{is_among, with_mode, with_modes, without_mode, declared_modes}
use Rattle.recorders.specs.Modes.{default_modes, in_order}

-- something is recorded, unless its option says that it isn't
abbrev pub is_on : Option ObjectOption → Bool
is_on (Some (object.Recording on)) = on
is_on _ = true

-- the modes that are chosen after an item, where these were before it
abbrev pub after_item : List RecordedMode → List Mode → ModeItem → List Mode
after_item modes chosen item.Default = with_modes chosen (default_modes modes)
after_item modes chosen item.All = with_modes chosen (declared_modes modes)
after_item modes chosen (item.Only mode) = with_mode chosen mode
after_item modes chosen (item.Plus mode) = with_mode chosen mode
after_item modes chosen (item.Minus mode) = without_mode chosen mode

-- the same after all items
abbrev pub after_items : List RecordedMode → List Mode → List ModeItem → List Mode
after_items modes chosen items = fold (after_item modes) chosen items

-- an item has a sign
abbrev pub is_signed : ModeItem → Bool
is_signed (item.Plus mode) = true
is_signed (item.Minus mode) = true
is_signed _ = false

abbrev pub begins_signed : List ModeItem → Bool
begins_signed [] = false
begins_signed (i ∷ is) = is_signed i

-- the modes with which a list of items begins: those that the statistic names without a `?`, where
-- the first item has a sign, and none otherwise
abbrev pub first_modes : List RecordedMode → List ModeItem → List Mode
first_modes modes items = if begins_signed items then default_modes modes else []

-- THE MODES that the option `result-recording-modes` chooses for a statistic with these modes;
-- without the option those that it names without a `?`
abbrev pub chosen_modes : List RecordedMode → Option ObjectOption → List Mode
chosen_modes modes (Some (object.Modes items)) = after_items modes (first_modes modes items) items
chosen_modes modes _ = default_modes modes

-- the modes in which a statistic with these modes is recorded by that option, in their order
abbrev pub recorded_modes : List RecordedMode → Option ObjectOption → List Mode
recorded_modes modes option = in_order modes (chosen_modes modes option)

-- what an option says of a part of the module of that path
abbrev pub option_of : List IniEntry → List ℕ → List ℕ → List ℕ → Option ObjectOption
option_of entries path name option = object_for (path_under (path_under path name) option) entries

-- the name of what is recorded of a statistic in a mode: `statistic:mode`
abbrev pub result_name : List ℕ → Mode → List ℕ
result_name name mode = name ++ (codes ":" ++ mode_name mode)

-- whether the option says that anything is recorded of a statistic of that name
abbrev pub records_statistic : List IniEntry → List ℕ → List ℕ → Bool
records_statistic entries path name =
    is_on (option_of entries path name (codes "statistic-recording"))

-- the modes in which a statistic of the module of that path is recorded, in their order
abbrev pub modes_of : List IniEntry → List ℕ → Statistic → List Mode
modes_of entries path s =
    recorded_modes s.modes (option_of entries path s.name (codes "result-recording-modes"))

-- THE MODES in which the options let a statistic of the module of that path be recorded, in their
-- order
unfoldable pub selected_modes : List IniEntry → List ℕ → Statistic → List Mode
selected_modes entries path s =
    if records_statistic entries path s.name then modes_of entries path s else []

-- whether the option lets a vector of that name be recorded
abbrev pub records_vector_named : List IniEntry → List ℕ → List ℕ → Bool
records_vector_named entries path name =
    is_on (option_of entries path name (codes "vector-recording"))

-- whether the option lets a scalar of that name be recorded
abbrev pub records_scalar_named : List IniEntry → List ℕ → List ℕ → Bool
records_scalar_named entries path name =
    is_on (option_of entries path name (codes "scalar-recording"))

-- whether the option lets a statistic of that name be recorded as a scalar in one of these modes
abbrev pub records_scalar_among : List IniEntry → List ℕ → List ℕ → List Mode → Bool
records_scalar_among entries path name modes =
    list_any (λ mode. records_scalar_named entries path (result_name name mode)) modes

-- whether a statistic of the module of that path is recorded as a scalar in one of its modes, if it
-- makes a value of its values
abbrev pub records_scalars : List IniEntry → List ℕ → Statistic → Bool
records_scalars entries path s =
    records_scalar_among entries path s.name (selected_modes entries path s)

-- WHETHER THE VECTOR of a statistic of the module of that path is recorded: the mode `vector` is
-- among those that are selected, and the vector is
abbrev pub records_vector : List IniEntry → List ℕ → Statistic → Bool
records_vector entries path s =
    is_among mode.Vector (selected_modes entries path s)
    && records_vector_named entries path (result_name s.name mode.Vector)
