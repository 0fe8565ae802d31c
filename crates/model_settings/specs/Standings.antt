-- Where the modules of a model stand, by their paths alone; and all that its values rest on.
use Rattle.std.specs.Prelude.{◌≡◌, ◌≢◌, ℕ, suc, ◌+◌, ◌-◌, ◌*◌, ◌^◌, ◌<◌, ◌==◌, ◌||◌, pos, Bool}
use Rattle.std.specs.Prelude.{true, nat_lt, List, [], ◌∷◌, Option, Some, None, option_map, length}
use Rattle.std.specs.Prelude.{map, take, drop, if◌then◌else◌}
use Rattle.std.specs.List.{All, position}
use Rattle.std.specs.Option.{option_and_then}
use Rattle.ini_trees.specs.Entries.{last_name, value_for}
use Rattle.ned_trees.specs.declared.declarations.TypeDeclaration.{TypeDeclaration}
use Rattle.inside_parts.specs.declared.gates.TypeGates.{TypeGates}
use Rattle.inside_parts.specs.Gates as gates
use Rattle.inside_parts.specs.Names.{position_of, with_name}
use Rattle.inside_keys.specs.Inside.{submodule_names}
use Rattle.inside_keys.specs.Keys.{child}
use Rattle.inside_keys.specs.declared.key.Module.{Module}
use Rattle.inside_keys.specs.Settings.{ModuleRules, Whereabouts}
use Rattle.model_data.specs.declared.model.Model.{Model}
use Rattle.model_data.specs.Models.{entries_in, network_of}

-- what stands before the last dot of a path: the path of the module around; none where it has no
-- dot
abbrev pub before_last : List ℕ → Option (List ℕ)
before_last path = if nat_lt (length (last_name path)) (length path)
    then Some (take (length path - suc (length (last_name path))) path) else None

-- where the bracket of an index begins in a module's name
abbrev pub bracket_of : List ℕ → Option ℕ
bracket_of own = position (λ c. c == 91) own

abbrev pub name_before : List ℕ → Option ℕ → List ℕ
name_before own None = own
name_before own (Some at) = take at own

-- The number that digits make, after those that made this one, up to the bracket that ends them:
-- none where there is another byte before that, or where it has more than 32 bits.
abbrev pub index_after : ℕ → List ℕ → Option ℕ
index_after n [] = None
index_after n (c ∷ cs) =
    if c == 93 then Some n
    else if nat_lt c 48 || nat_lt 57 c then None
    else if nat_lt (2 ^ 32 - 1) (n * 10 + (c - 48)) then None
    else index_after (n * 10 + (c - 48)) cs

abbrev pub index_behind : List ℕ → Option ℕ → Option ℕ
index_behind own None = None
index_behind own (Some at) = index_after 0 (drop (suc at) own)

-- a module's name, and its index, from what stands after the last dot of its path
abbrev pub name_in : List ℕ → List ℕ
name_in own = name_before own (bracket_of own)

abbrev pub index_in : List ℕ → Option ℕ
index_in own = index_behind own (bracket_of own)

-- the module around one, by its path
abbrev pub around_of : Module → Option Module
around_of m = option_map (λ path. record { created = m.created; path = path }) (before_last m.path)

-- WHERE A MODULE STANDS that was not created while the model ran: what is before the last dot of
-- its path is the module around, after it are its name and its index. The network's path has no
-- dot. Each is declared by the type of the module around.
abbrev pub standing_of : Module → Whereabouts
standing_of m = record {
  around = around_of m;
  name = name_in (last_name m.path);
  index = option_map pos (index_in (last_name m.path));
  is_declared = true;
}

-- how many dots a path has
abbrev pub dots_in : List ℕ → ℕ
dots_in [] = 0
dots_in (c ∷ cs) = if c == 46 then 1 + dots_in cs else dots_in cs

-- whether a path has more than 32 names: modules are nested no deeper
abbrev pub is_too_deep : List ℕ → Bool
is_too_deep path = nat_lt 31 (dots_in path)

-- the names of types
abbrev pub names_of_types : List TypeDeclaration → List (List ℕ)
names_of_types types = map (λ (t : TypeDeclaration). t.name) types

-- the number of a type among all types
abbrev pub number_of : List TypeDeclaration → TypeDeclaration → Option ℕ
number_of types t = position_of t.name (names_of_types types)

-- ALL THAT THE VALUES OF A MODEL REST ON, where no module was created while it ran
unfoldable pub setting_of : Model → ModuleRules
setting_of m = record {
  stands = standing_of;
  root = λ site. option_and_then (number_of m.types) (network_of m);
  planned = λ site. None;
  is_too_deep = λ site. is_too_deep site.path;
  entry = λ path. value_for path (entries_in m);
  types = m.types;
}

-- ---- what is looked up of it

-- these names, and others after them, each once
abbrev pub names_behind : List (List ℕ) → List (List ℕ) → List (List ℕ)
names_behind before [] = before
names_behind before (n ∷ ns) = names_behind (with_name n before) ns

-- for each type the names of its submodules
abbrev pub submodules_of_types : List TypeDeclaration → List (List (List ℕ))
submodules_of_types types = map submodule_names types

-- for each type its gates
abbrev pub gates_of_types : List TypeDeclaration → List TypeGates
gates_of_types types = map (λ (t : TypeDeclaration). gates.gates_of t.gates) types

-- what is looked up of these types is theirs
pub record IsLookedUp (types : List TypeDeclaration) (names : List (List ℕ))
    (submodules : List (List (List ℕ))) (gates : List TypeGates) : Type 0 where
  pub names_are : names ≡ names_of_types types
  pub submodules_are : submodules ≡ submodules_of_types types
  pub gates_are : gates ≡ gates_of_types types

-- ---- the law of paths

-- a name has no dot and no bracket
abbrev pub IsPlain : List ℕ → Type 0
IsPlain name = All (λ c. (c ≢ 46) × (c ≢ 91)) name

abbrev pub HasFewBits : Option ℕ → Type 0
HasFewBits None = Unit {0}
HasFewBits (Some k) = k < 2 ^ 32

-- A SUBMODULE STANDS WHERE ITS PATH SAYS: in its parent, under its name and index
abbrev pub ChildrenStand : Type 0
ChildrenStand = (m : Module) (name : List ℕ) (index : Option ℕ) → IsPlain name → HasFewBits index
    → standing_of (child m name index)
    ≡ record { around = Some m; name = name; index = option_map pos index; is_declared = true }
