-- What the entries of a configuration say.
use Rattle.std.specs.Prelude.{ℕ, ◌==◌, Bool, false, not, ◌&&◌, List, Option, Some, None, is_some}
use Rattle.std.specs.Prelude.{if◌then◌else◌}
use Rattle.std.specs.List.{after_last, find, list_any}
use Rattle.std.specs.Option.{option_and_then}
use Rattle.std.specs.Str.{bytes_eq, chars, is_utf8}
use Rattle.ini_pattern.specs.Matched.{is_matched}
use Rattle.ini_trees.specs.declared.lines.IniEntry.{IniEntry}
use Rattle.ini_trees.specs.declared.entry.EntryMeaning.{EntryMeaning}
use Rattle.ini_trees.specs.declared.entry.EntryMeaning.TheVariants as meaning
use Rattle.ini_trees.specs.declared.entry.EntryValue.{EntryValue}
use Rattle.ini_trees.specs.declared.entry.ObjectOption.{ObjectOption}
use Rattle.ini_trees.specs.Words.{word_typename}
use Rattle.ini_trees.specs.Words.{Bytes}

-- ---- options

abbrev pub network_said : EntryMeaning → Option Bytes
network_said (meaning.Network name) = Some name
network_said _ = None

abbrev pub names_network : IniEntry → Bool
names_network e = is_some (network_said e.meaning)

-- the network that the first entry of the option `network` names
abbrev pub network_entry : List IniEntry → Option Bytes
network_entry entries =
    option_and_then (λ (e : IniEntry). network_said e.meaning) (find names_network entries)

abbrev pub limit_said : EntryMeaning → Option ℕ
limit_said (meaning.TimeLimit ps) = Some ps
limit_said _ = None

abbrev pub names_limit : IniEntry → Bool
names_limit e = is_some (limit_said e.meaning)

-- the time of the first entry of the option `sim-time-limit`, in picoseconds
abbrev pub time_limit_entry : List IniEntry → Option ℕ
time_limit_entry entries =
    option_and_then (λ (e : IniEntry). limit_said e.meaning) (find names_limit entries)

-- ---- the first match

-- the last name of a path: that of a parameter or an option
abbrev pub last_name : Bytes → Bytes
last_name path = after_last (λ c. c == 46) path

-- a parameter has a name without `-`, and other than `typename`
abbrev pub is_parameter_name : Bytes → Bool
is_parameter_name name = not (bytes_eq name word_typename) && not (list_any (λ b. b == 45) name)

-- Whether an entry counts for a path, by the path's last name: for `typename` the entries of types,
-- for one with a `-` the per-object options of that very name, for any other the entries of
-- parameters; and its whole key matches the path.
abbrev pub speaks : Bytes → EntryMeaning → Bool
speaks path (meaning.Parameter p) =
    is_parameter_name (last_name path) && is_matched p.pattern (chars path)
speaks path (meaning.Type p) =
    bytes_eq (last_name path) word_typename && is_matched p.pattern (chars path)
speaks path (meaning.Object o) =
    bytes_eq o.option (last_name path) && is_matched o.pattern (chars path)
speaks path _ = false

abbrev pub speaks_of : Bytes → IniEntry → Bool
speaks_of path e = speaks path e.meaning

-- THE FIRST MATCH for a path: of the entries in their order the first that counts for it and
-- matches it
abbrev pub first_match : Bytes → List IniEntry → Option IniEntry
first_match path entries = find (speaks_of path) entries

-- the value that an entry of a parameter or a type gives
abbrev pub value_said : EntryMeaning → Option EntryValue
value_said (meaning.Parameter p) = Some p.value
value_said (meaning.Type p) = Some p.value
value_said _ = None

-- the value of the first match, where the path is a text
abbrev pub value_for : Bytes → List IniEntry → Option EntryValue
value_for path entries =
    if is_utf8 path then option_and_then (λ (e : IniEntry). value_said e.meaning)
    (first_match path entries) else None

-- what an entry of a per-object option says
abbrev pub object_said : EntryMeaning → Option ObjectOption
object_said (meaning.Object o) = Some o.says
object_said _ = None

-- what the first match says of a per-object option, whose name ends the path, where the path is a
-- text
abbrev pub object_for : Bytes → List IniEntry → Option ObjectOption
object_for path entries =
    if is_utf8 path then option_and_then (λ (e : IniEntry). object_said e.meaning)
    (first_match path entries) else None
