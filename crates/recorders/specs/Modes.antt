-- Which modes of a statistic are recorded.
use Rattle.std.specs.Prelude.{Bool, false, not, List, [], ◌∷◌, ◌++◌, map, filter, fold}
use Rattle.std.specs.Prelude.{if◌then◌else◌}
use Rattle.std.specs.List.{list_any}
use denote.Enum.Bare.{sameb}
use Rattle.ned_trees.specs.contracts.modes.Mode as mode_kind
use Rattle.ned_trees.specs.declared.modes.Mode.{Mode}
use Rattle.ned_trees.specs.declared.declarations.RecordedMode.{RecordedMode}

abbrev pub same_mode : Mode → Mode → Bool
same_mode = sameb mode_kind.the_type

-- a statistic with these modes is recorded in a mode that it names without a `?`; of one mode twice
-- the first place counts (OMNeT++ Simulation Manual, "Result Recording Modes")
abbrev pub is_recorded : Mode → List RecordedMode → Bool
is_recorded mode [] = false
is_recorded mode (m ∷ ms) = if same_mode m.mode mode then not m.optional else is_recorded mode ms

-- the mode is one of these
abbrev pub is_among : Mode → List Mode → Bool
is_among mode modes = list_any (λ (m : Mode). same_mode m mode) modes

-- a list of modes has each once: these with one more, after them where it is new
abbrev pub with_mode : List Mode → Mode → List Mode
with_mode chosen mode = if is_among mode chosen then chosen else chosen ++ mode ∷ []

-- these with some more
abbrev pub with_modes : List Mode → List Mode → List Mode
with_modes chosen modes = fold with_mode chosen modes

-- these without one
abbrev pub without_mode : List Mode → Mode → List Mode
without_mode chosen mode = filter (λ (m : Mode). not (same_mode m mode)) chosen

-- the modes that a statistic names, with a `?` or without, in their order
abbrev pub declared_modes : List RecordedMode → List Mode
declared_modes modes = with_modes [] (map (λ (m : RecordedMode). m.mode) modes)

-- those of them that are recorded where no option says else
abbrev pub default_modes : List RecordedMode → List Mode
default_modes modes = filter (λ (m : Mode). is_recorded m modes) (declared_modes modes)

-- those of the modes that are among the others, and those that are not
abbrev pub modes_among : List Mode → List Mode → List Mode
modes_among modes others = filter (λ (m : Mode). is_among m others) modes

abbrev pub modes_not_among : List Mode → List Mode → List Mode
modes_not_among modes others = filter (λ (m : Mode). not (is_among m others)) modes

-- chosen modes in the order of their recording: first those that the statistic names, as it names
-- them, then the others, as they were added
abbrev pub in_order : List RecordedMode → List Mode → List Mode
in_order modes chosen =
    modes_among (declared_modes modes) chosen ++ modes_not_among chosen (declared_modes modes)
