-- What values rest on besides other values: the entries of the ini text.
use Rattle.std.specs.Prelude.{◌≡◌, ℕ, ◌++◌, List, Option, Some, None, codes}
use Rattle.ini_trees.specs.declared.entry.EntryValue.{EntryValue}
use Rattle.inside_keys.specs.declared.key.Key.{Key}
use Rattle.inside_keys.specs.declared.key.Module.{Module}
use Rattle.inside_keys.specs.declared.key.What.{What}
use Rattle.inside_keys.specs.declared.key.What.TheVariants as what
use Rattle.inside_keys.specs.Given.{channel_parameter_path, parameter_path}
use Rattle.inside_keys.specs.Settings.{ModuleRules}
use Rattle.inside_keys.specs.Values.{rules_of}

-- WHICH PATH A KEY READS in the ini text, if any: a parameter of a module or of a channel its own
-- full path; a type that of its module with `typename`, though the type of a module which was created
-- while a run goes on is read nowhere. All other keys rest on values alone.
abbrev pub path_read_by : Module → What → Option (List ℕ)
path_read_by m what.Type = Some (m.path ++ codes ".typename")
path_read_by m (what.Param x) = Some (parameter_path m x)
path_read_by m (what.Condition x) = None
path_read_by m (what.VectorSize x) = None
path_read_by m (what.Declared x) = None
path_read_by m (what.GateSize x) = None
path_read_by m (what.Sizeof x) = None
path_read_by m (what.Exists x) = None
path_read_by m (what.ExistsAt x k) = None
path_read_by m (what.Member s x) = None
path_read_by m (what.Element s k x) = None
path_read_by m (what.Channel c x) = Some (channel_parameter_path c x)
path_read_by m (what.Carrier c) = None
path_read_by m what.Joined = None
path_read_by m what.Inside = None

-- the same, of a key with its module
abbrev pub path_read : Key → Option (List ℕ)
path_read k = path_read_by k.site k.what

-- the two texts say the same of a path that is read
abbrev pub SaysTheSame : (List ℕ → Option EntryValue) → (List ℕ → Option EntryValue)
    → Option (List ℕ) → Type 0
SaysTheSame before after None = Unit {0}
SaysTheSame before after (Some path) = after path ≡ before path

-- all but the ini text is as it was
abbrev pub with_entries : (List ℕ → Option EntryValue) → ModuleRules → ModuleRules
with_entries entry s = record s { entry = entry }

-- A KEY ASKS AS BEFORE where another ini text says the same of the path that it reads.
abbrev pub AsksAsBefore : Type 0
AsksAsBefore = (s : ModuleRules) (after : List ℕ → Option EntryValue) (k : Key)
    → SaysTheSame s.entry after (path_read k)
    → (rules_of (with_entries after s)).asking k ≡ (rules_of s).asking k
