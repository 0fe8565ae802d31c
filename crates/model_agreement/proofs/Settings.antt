-- Models of the same types, network and entries that count have values that rest on the same.
use Rattle.std.proofs.Common.{◌≡◌, ◌∙◌, ℕ, List, Option, None, ap, refl, sym}
use Rattle.std.specs.Option.{option_and_then}
use Rattle.ini_trees.specs.declared.entry.EntryValue.{EntryValue}
use Rattle.ini_trees.specs.declared.lines.IniEntry.{IniEntry}
use Rattle.ini_trees.specs.Entries.{last_name, network_entry, value_for}
use Rattle.ini_trees.specs.Sections.{entries_along}
use Rattle.inside_keys.specs.Settings.{ModuleRules}
use Rattle.model_data.specs.declared.model.Model.{Model}
use Rattle.model_data.specs.Models.{as_network, entries_in, network_of}
use Rattle.model_settings.specs.Standings.{is_too_deep, number_of, setting_of, standing_of}
use Rattle.ned_trees.specs.declared.declarations.TypeDeclaration.{TypeDeclaration}
use Rattle.ned_types.specs.Types.{type_named}
use Rattle.same_entries.specs.Counted.{counted}
use Rattle.model_agreement.specs.Models.{RestOnSame}
use Rattle.same_entries.proofs.Counting.{value_by_counted}

-- what values rest on, by its parts
abbrev setting_by : List TypeDeclaration → Option TypeDeclaration → (List ℕ → Option EntryValue) → ModuleRules
setting_by types network entry = record {
  stands = standing_of;
  root = λ site. option_and_then (number_of types) network;
  planned = λ site. None;
  is_too_deep = λ site. is_too_deep site.path;
  entry = entry;
  types = types;
}

abbrev network_by : List TypeDeclaration → Option (List ℕ) → Option TypeDeclaration
network_by types name = option_and_then as_network (option_and_then (λ n. type_named (last_name n) types) name)

by_parts : (m : Model) → setting_of m ≡ setting_by m.types (network_of m) (λ path. value_for path (entries_in m))
unfolding setting_of
by_parts m = refl

pub same_networks : (m n : Model) → m.types ≡ n.types → network_entry (entries_in m) ≡ network_entry (entries_in n) → network_of m ≡ network_of n
same_networks m n types name =
    ap (λ (ts : List TypeDeclaration). network_by ts (network_entry (entries_in m))) types
    ∙ ap (λ (o : Option (List ℕ)). network_by n.types o) name

same_value : (es fs : List IniEntry) → counted es ≡ counted fs → (path : List ℕ) → value_for path es ≡ value_for path fs
same_value es fs same path = value_by_counted path es ∙ (ap (λ (xs : List IniEntry). value_for path xs) same ∙ sym (value_by_counted path fs))

same_entries : (es fs : List IniEntry) → counted es ≡ counted fs → ◌≡◌ {A = List ℕ → Option EntryValue} (λ path. value_for path es) (λ path. value_for path fs)
same_entries es fs same = λ j path. same_value es fs same path j

pub rests_on_same : (m n : Model) → m.types ≡ n.types → network_entry (entries_in m) ≡ network_entry (entries_in n) → counted (entries_in m) ≡ counted (entries_in n) → RestOnSame m n
rests_on_same m n types name entries =
    let network : network_of m ≡ network_of n = same_networks m n types name in
    record {
      setting = by_parts m
          ∙ (ap (λ (ts : List TypeDeclaration). setting_by ts (network_of m) (λ path. value_for path (entries_in m))) types
          ∙ (ap (λ (t : Option TypeDeclaration). setting_by n.types t (λ path. value_for path (entries_in m))) network
          ∙ (ap (λ (e : List ℕ → Option EntryValue). setting_by n.types (network_of n) e) (same_entries (entries_in m) (entries_in n) entries)
          ∙ sym (by_parts n))));
      network = network;
    }

-- the same, where both chains are one
pub along_one : (m n : Model) → m.chain ≡ n.chain → counted (entries_along m.chain m.ini) ≡ counted (entries_along m.chain n.ini) → counted (entries_in m) ≡ counted (entries_in n)
along_one m n chain same = same ∙ ap (λ (c : List (List ℕ)). counted (entries_along c n.ini)) chain
