-- Types by their names.
use Rattle.std.specs.Prelude.{◌≡◌, ℕ, Bool, true, false, not, ◌==◌, ◌||◌, ◌&&◌, ◌++◌, ◌≤◌, List, []}
use Rattle.std.specs.Prelude.{◌∷◌, length, map, if◌then◌else◌, Option, Some, None, is_none, Result}
use Rattle.std.specs.Prelude.{Ok, Err}
use Rattle.std.specs.Borrow.{Bor}
use Rattle.std.specs.Map.{lookup}
use Rattle.std.specs.Str.{bytes_eq}
use Rattle.std.specs.List.{filter, list_any}
use Rattle.ned_trees.specs.declared.declarations.TypeDeclaration.{TypeDeclaration}
use Rattle.ned_types.specs.Clashes.{has_unknown_channel}
use Rattle.ned_types.specs.WellFormed.{IsAmong}
use Rattle.ned_types.specs.Types.{has_duplicate, has_inner_network, is_type_named}
use Rattle.ned_types.specs.Types.{is_interface_kind, names_unknown, type_named}
use Rattle.ned_inheritance.specs.Interfaces.{keeps_other, names_no_type}
use Rattle.ned_inheritance.specs.Places.{duplicate_from}
use Rattle.ned_inheritance.specs.Inheritance.{extends_unknown, extends_other, once_behind, reached}
use Rattle.ned_inheritance.specs.Inheritance.{joined_behind, gathered, bare, with_members}
use Rattle.ned_inheritance.specs.Inheritance.{without_interfaces}

-- the types that stand in a map
abbrev pub types_at : List (Bor (List ℕ) × Bor TypeDeclaration) → List TypeDeclaration
types_at entries = map (λ (e : Bor (List ℕ) × Bor TypeDeclaration). e.1.now) entries

-- each stands at its name
abbrev pub HaveNames : List (Bor (List ℕ) × Bor TypeDeclaration) → Type 0
HaveNames [] = Unit {0}
HaveNames (e ∷ es) = (e.0.now ≡ e.1.now.name) × HaveNames es

-- whether one of these has the name of one of those
abbrev pub is_one_taken : List TypeDeclaration → List TypeDeclaration → Bool
is_one_taken seen types = list_any (λ t. is_type_named t.name seen) types

-- all types are there, or the number of the first whose name is taken
abbrev pub AreNamed : List TypeDeclaration → Result (List TypeDeclaration) ℕ → Type 0
AreNamed types (Err number) =
    (has_duplicate types ≡ true) × (duplicate_from [] 0 types ≡ Some number)
AreNamed types (Ok named) = (has_duplicate types ≡ false) × (named ≡ types)

-- whether some of the types name what is neither a type nor a built-in channel
abbrev pub is_unknown_named : List TypeDeclaration → List TypeDeclaration → Bool
is_unknown_named types some =
    list_any (λ t. names_unknown types t.submodules) some
    || (list_any (λ t. extends_unknown types t.base) some
    || (list_any (λ t. names_no_type types t.interfaces) some
    || list_any (λ t. has_unknown_channel types t.connections.items) some))

-- whether some of the types are networks within networks, or name what is of another kind than it
-- should be
abbrev pub is_other_named : List TypeDeclaration → List TypeDeclaration → Bool
is_other_named types some =
    has_inner_network some || (list_any (λ t. extends_other types t.kind t.base) some
    || list_any (λ t. keeps_other types t.kind t.interfaces) some)

-- these have the names that those have
abbrev pub HaveNamesOf : List TypeDeclaration → List TypeDeclaration → Type 0
HaveNamesOf these those = (name : List ℕ) → is_type_named name these ≡ is_type_named name those

-- these have the names that those have, and the name of a type
abbrev pub AddsName : List TypeDeclaration → List TypeDeclaration → TypeDeclaration → Type 0
AddsName those these t = (name : List ℕ)
    → is_type_named name these ≡ (is_type_named name those || bytes_eq t.name name)

-- the line that stands at a name
abbrev pub line_or_none : Option (List TypeDeclaration) → List TypeDeclaration
line_or_none None = []
line_or_none (Some line) = line

abbrev pub line_at : List (Bor (List ℕ) × List TypeDeclaration) → List ℕ → List TypeDeclaration
line_at entries name = line_or_none (lookup (λ k. bytes_eq name k.now) entries)

-- whether a type has no members of its own, and extends no type
abbrev pub is_bare : TypeDeclaration → Bool
is_bare t = is_none t.base
    && (length t.lines == 0
    && (length t.gates == 0
    && (length t.submodules == 0
    && (length t.connections.items == 0 && not t.connections.allow_unconnected))))

abbrev pub has_kept : Option TypeDeclaration → Bool
has_kept None = false
has_kept (Some t) = not (is_bare t)

-- those of these whose names are those of types with members
abbrev pub kept : List TypeDeclaration → List TypeDeclaration → List TypeDeclaration
kept types line = filter (λ u. has_kept (type_named u.name types)) line

-- a type after others, unless it has no members or one of them has its name
abbrev pub kept_behind : List TypeDeclaration → TypeDeclaration → List TypeDeclaration
kept_behind line t = if is_bare t then line else once_behind line t

-- at each name stands the line of the interface of that name: those that have members
abbrev pub HaveLines : List (Bor (List ℕ) × List TypeDeclaration) → List TypeDeclaration → Type 0
HaveLines entries types = (name : List ℕ)
    → line_at entries name ≡ kept types (reached (length types) types name)

-- the line of an interface was added, which joins those of what it extends, and itself where it has
-- members
abbrev pub AddsLine : List (Bor (List ℕ) × List TypeDeclaration)
    → List (Bor (List ℕ) × List TypeDeclaration) → TypeDeclaration → Type 0
AddsLine before after t = (name : List ℕ) → line_at after name ≡ (if bytes_eq t.name name
    then kept_behind (joined_behind [] (map (line_at before) t.interfaces)) t
    else line_at before name)

-- one of the types, which isn't seen and extends none of them but what is seen
abbrev pub IsBehind : List TypeDeclaration → List TypeDeclaration → TypeDeclaration → Type 0
IsBehind types seen t =
    IsAmong t types
    × ((name : List ℕ) → is_interface_kind t.kind ≡ true → IsAmong name t.interfaces
    → is_type_named name types ≡ true → is_type_named name seen ≡ true)
    × ((name : List ℕ) → t.base ≡ Some name → is_type_named name types ≡ true
    → is_type_named name seen ≡ true)
    × (is_type_named t.name seen ≡ false)

-- each of some types stands after all that it extends, and after those that were seen
abbrev pub StandBehind : List TypeDeclaration → List TypeDeclaration → List TypeDeclaration → Type 0
StandBehind types seen [] = Unit {0}
StandBehind types seen (t ∷ ts) = IsBehind types seen t × StandBehind types (seen ++ t ∷ []) ts

-- at the name of each type that was seen stand those of the line of its interface that have
-- members, and at other names none
abbrev pub HaveLinesOf : List (Bor (List ℕ) × List TypeDeclaration) → List TypeDeclaration
    → List TypeDeclaration → Type 0
HaveLinesOf entries types seen =
    ((name : List ℕ) → is_type_named name seen ≡ true → (n : ℕ) → length seen ≤ n
    → kept types (reached n types name) ≡ line_at entries name)
    × ((name : List ℕ) → is_type_named name seen ≡ false → line_at entries name ≡ [])

-- the lines of the interfaces of an order, where each type stands after all that it extends
abbrev pub LinesAlong : List (Bor (List ℕ) × List TypeDeclaration) → List TypeDeclaration → Type 0
LinesAlong entries order = (types : List TypeDeclaration) → has_duplicate types ≡ false
    → StandBehind types [] order → HaveLinesOf entries types order

-- an interface with all that it extends, by their lines
abbrev pub flat_by_lines : List (Bor (List ℕ) × List TypeDeclaration) → TypeDeclaration
    → TypeDeclaration
flat_by_lines entries t = without_interfaces
    (with_members (gathered (bare t) (joined_behind [] (map (line_at entries) t.interfaces))) t)
