-- Options of a configuration, and per-object options.
-- OMNeT++ Simulation Manual, "List of Configuration Options".
use Rattle.std.specs.Prelude.{◌≡◌, ℕ, pos, Bool, true, false, not, ◌&&◌, List, [], ◌∷◌, Option}
use Rattle.std.specs.Prelude.{Some, None, ◌==◌, if◌then◌else◌, codes, option_map}
use Rattle.std.specs.List.{list_all}
use Rattle.std.specs.Option.{option_and_then}
use Rattle.std.specs.Str.{bytes_eq}
use Rattle.sim_values.specs.declared.value.Dimension.TheVariants.{Time}
use Rattle.sim_values.specs.declared.value.Value.TheVariants.{Quantity}
use Rattle.ned_trees.specs.declared.expressions.Expression.{Expression}
use Rattle.ned_trees.specs.declared.expressions.Expression.TheVariants.{Literal}
use Rattle.ned_leaves.specs.Grammar.{mode_named}
use Rattle.ini_trees.specs.declared.entry.ModeItem.{ModeItem}
use Rattle.ini_trees.specs.declared.entry.ModeItem.TheVariants as item
use Rattle.ini_trees.specs.declared.entry.ObjectOption.{ObjectOption}
use Rattle.ini_trees.specs.declared.entry.ObjectOption.TheVariants as object
use Rattle.ini_entries.specs.Names.{is_config_name}
use Rattle.ini_entries.specs.Texts.{Bytes, is_among, items_of}

-- ---- options of the configuration

abbrev pub word_network : Bytes
word_network = codes "network"

abbrev pub word_extends : Bytes
word_extends = codes "extends"

abbrev pub word_time_limit : Bytes
word_time_limit = codes "sim-time-limit"

-- options whose value is read
abbrev pub words_with_effect : List Bytes
words_with_effect = word_network ∷ word_extends ∷ word_time_limit ∷ []

-- options that are left out: an entry of one of them is none
abbrev pub words_left_out : List Bytes
words_left_out = codes "include" ∷ codes "warmup-period" ∷ []

-- options that may have one value alone: one run of each configuration, and times in picoseconds
abbrev pub is_only_value : Bytes → Bytes → Bool
is_only_value key value =
    if bytes_eq key (codes "repeat") then bytes_eq value (codes "1")
    else (if bytes_eq key (codes "simtime-resolution") then bytes_eq value (codes "ps") else true)

-- an option without effect may have this value
unfoldable pub is_other_option : Bytes → Bytes → Bool
is_other_option key value =
    not (is_among key words_with_effect)
    && (not (is_among key words_left_out) && is_only_value key value)

-- all names of a list, where each is one of a section
abbrev pub config_names : List Bytes → Option (List Bytes)
config_names names = if list_all is_config_name names then Some names else None

-- a time, as NED writes it
abbrev pub time_literal : ℕ → Expression
time_literal ps = Literal (Quantity Time (pos ps))

-- ---- per-object options

abbrev pub word_modes : Bytes
word_modes = codes "result-recording-modes"

-- options that say whether something is recorded
abbrev pub recording_words : List Bytes
recording_words = codes "scalar-recording" ∷ codes "vector-recording"
    ∷ codes "statistic-recording" ∷ []

abbrev pub plain_item : Bytes → Option ModeItem
plain_item text =
    if bytes_eq text (codes "default") then Some item.Default
    else (if bytes_eq text (codes "all") then Some item.All
    else option_map item.Only (mode_named text))

-- an item of a list of recording modes
unfoldable pub mode_item : Bytes → Option ModeItem
mode_item [] = None
mode_item (b ∷ bs) =
    if b == 43 then option_map item.Plus (mode_named bs)
    else (if b == 45 then option_map item.Minus (mode_named bs) else plain_item (b ∷ bs))

-- all of them, where each is one
abbrev pub mode_items : List Bytes → Option (List ModeItem)
mode_items [] = Some []
mode_items (text ∷ texts) =
    option_and_then (λ i. option_map (λ more. i ∷ more) (mode_items texts)) (mode_item text)

abbrev pub truth_word : Bool → Bytes
truth_word true = codes "true"
truth_word false = codes "false"

-- what a per-object option of that name says: which modes are recorded; whether something is
-- recorded; nothing
abbrev pub IsObjectOption : Bytes → Bytes → ObjectOption → Type 0
IsObjectOption name bytes (object.Modes items) =
    (name ≡ word_modes) × (mode_items (items_of bytes) ≡ Some items)
IsObjectOption name bytes (object.Recording on) =
    (is_among name recording_words ≡ true) × (bytes ≡ truth_word on)
IsObjectOption name bytes object.Other = is_among name (word_modes ∷ recording_words) ≡ false
