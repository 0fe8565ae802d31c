-- The header of a result file.
use Rattle.std.specs.Prelude.{ℕ, List, [], ◌∷◌, ◌++◌, codes, unwrap_or, if◌then◌else◌}
use Rattle.std.specs.List.{list_all, flat_map}
use Rattle.ini_trees.specs.declared.lines.IniEntry.{IniEntry}
use Rattle.ini_trees.specs.Entries.{last_name, network_entry}
use Rattle.ini_trees.specs.Sections.{is_extends}
use Rattle.model_data.specs.declared.model.Model.{Model}
use Rattle.model_data.specs.Models.{entries_in}
use Rattle.module_api.specs.Names.{is_plain, is_quoting}

abbrev pub escaped : ℕ → List ℕ
escaped c = if is_quoting c then 92 ∷ c ∷ [] else c ∷ []

-- a value in a result file: as it is where all its bytes are plain, else between `"`, with `\`
-- before each `"` and `\`
abbrev pub value_text : List ℕ → List ℕ
value_text value = if list_all is_plain value then value
    else 34 ∷ (flat_map escaped value ++ 34 ∷ [])

-- a line that gives a value to a key
unfoldable pub item_line : List ℕ → List ℕ → List ℕ → List ℕ
item_line word key value = word ++ 32 ∷ (key ++ 32 ∷ (value_text value ++ 10 ∷ []))

-- the line of an entry, but for one that says what is extended: the entries of a base stand there
-- themselves
abbrev pub config_line : IniEntry → List ℕ
config_line e = if is_extends e.meaning then [] else item_line (codes "config") e.key e.value

-- a line for each of these entries, in their order
abbrev pub config_lines : List IniEntry → List ℕ
config_lines entries = flat_map config_line entries

-- the lines that name the run with the number 0 of a configuration
abbrev pub run_lines : List ℕ → List ℕ
run_lines config = codes "version 3\nrun " ++ (config ++ codes "-0\n")

-- the lines of the run's attributes
abbrev pub attribute_lines : List ℕ → List ℕ → List ℕ
attribute_lines config network =
    item_line (codes "attr") (codes "configname") config
    ++ (item_line (codes "attr") (codes "network") network
    ++ item_line (codes "attr") (codes "runnumber") (codes "0"))

-- the header of the run with the number 0 of a configuration: an empty line ends it
abbrev pub header_text : List ℕ → List ℕ → List IniEntry → List ℕ
header_text config network entries =
    run_lines config ++ (attribute_lines config network ++ (config_lines entries ++ 10 ∷ []))

-- the name of the network without that of its package
abbrev pub network_name : Model → List ℕ
network_name m = last_name (unwrap_or (network_entry (entries_in m)) [])

-- THE HEADER of the result files of a run of that model
abbrev pub header_of : Model → List ℕ
header_of m = header_text m.config (network_name m) (entries_in m)
