-- Flat types, made from those of their bases.
use Rattle.std.specs.Prelude.{◌≡◌, ℕ, true, false, ◌&&◌, List, [], ◌∷◌, ◌++◌, drop, length, map}
use Rattle.std.specs.Prelude.{Option, Some, None, is_some, unwrap_or, if◌then◌else◌}
use Rattle.std.specs.Borrow.{Bor}
use Rattle.std.specs.Map.{lookup}
use Rattle.std.specs.Str.{bytes_eq}
use Rattle.ned_trees.specs.declared.declarations.SectionLine.{SectionLine}
use Rattle.ned_trees.specs.declared.declarations.TypeDeclaration.{TypeDeclaration}
use Rattle.ned_types.specs.Flat.{class_in, class_of, named_or, or_else}
use Rattle.ned_types.specs.Types.{has_duplicate, is_interface_kind, is_simple_kind, is_type_named}
use Rattle.ned_types.specs.Types.{type_named}
use Rattle.ned_types.specs.WellFormed.{IsAmong}
use Rattle.ned_inheritance.specs.Inheritance.{class_lines, flat_type, has_other_base}
use Rattle.ned_inheritance.specs.Inheritance.{joined_connections, no_connections, with_members}
use Rattle.ned_inheritance.specs.Named.{flat_by_lines, HaveLines, StandBehind}

-- a type of that class that extends another, before it has any member
abbrev pub bare_derived_with : List ℕ → TypeDeclaration → TypeDeclaration
bare_derived_with class t = record {
  kind = t.kind;
  name = t.name;
  base = t.base;
  interfaces = [];
  lines = class_lines (is_simple_kind t.kind) class;
  gates = [];
  submodules = [];
  connections = no_connections;
}

-- the lines of a flat type, but for that of its class, which stands before the others where it is a
-- simple type that extends another
abbrev pub own_lines : TypeDeclaration → List SectionLine
own_lines flat = if is_simple_kind flat.kind && is_some flat.base then drop 1 flat.lines
    else flat.lines

-- a type with all that a flat type has after its own
abbrev pub with_inherited : TypeDeclaration → TypeDeclaration → TypeDeclaration
with_inherited flat base = record {
  kind = flat.kind;
  name = flat.name;
  base = flat.base;
  interfaces = flat.interfaces ++ base.interfaces;
  lines = flat.lines ++ own_lines base;
  gates = flat.gates ++ base.gates;
  submodules = flat.submodules ++ base.submodules;
  connections = joined_connections flat.connections base.connections;
}

-- the flat type of a type whose base has this flat type
abbrev pub derived_over : TypeDeclaration → TypeDeclaration → TypeDeclaration
derived_over base t = with_members
    (with_inherited (bare_derived_with (named_or (class_in t.lines) (class_of base)) t) base) t

-- the same of a type whose base is none of the types, as a built-in channel
abbrev pub derived_alone : TypeDeclaration → TypeDeclaration
derived_alone t = with_members (bare_derived_with (class_of t) t) t

abbrev pub derived_by : Option TypeDeclaration → TypeDeclaration → TypeDeclaration
derived_by (Some base) t = derived_over base t
derived_by None t = derived_alone t

-- flat types by their names: of the types that extend others, and of interfaces; all others are flat
-- as they are declared
abbrev pub FlatEntries : Type 0
FlatEntries = List (Bor (List ℕ) × TypeDeclaration)

abbrev pub flat_at : FlatEntries → List ℕ → Option TypeDeclaration
flat_at entries name = lookup (λ k. bytes_eq name k.now) entries

-- the flat type that stands at the name of a type; the type itself where there is none
abbrev pub found_at : FlatEntries → TypeDeclaration → TypeDeclaration
found_at entries t = unwrap_or (flat_at entries t.name) t

-- the flat type of the name that a type extends, where it is one of these types
abbrev pub base_at : FlatEntries → List TypeDeclaration → List ℕ → Option TypeDeclaration
base_at entries types name = or_else (flat_at entries name) (type_named name types)

-- the flat type of a type where it isn't the type as it is declared, when those of all that it
-- extends are there, and lines of interfaces
abbrev pub changed_by_base : FlatEntries → List TypeDeclaration → TypeDeclaration → Option (List ℕ)
    → Option TypeDeclaration
changed_by_base entries types t None = None
changed_by_base entries types t (Some name) = Some (derived_by (base_at entries types name) t)

abbrev pub changed_behind : List (Bor (List ℕ) × List TypeDeclaration) → FlatEntries
    → List TypeDeclaration → TypeDeclaration → Option TypeDeclaration
changed_behind lines entries types t = if is_interface_kind t.kind then Some (flat_by_lines lines t)
    else changed_by_base entries types t t.base

-- a flat type was added at the name of a type
abbrev pub AddsFlat : FlatEntries → FlatEntries → TypeDeclaration → TypeDeclaration → Type 0
AddsFlat before after t flat = (name : List ℕ)
    → flat_at after name ≡ (if bytes_eq t.name name then Some flat else flat_at before name)

-- the same of one that isn't the type as it is declared, where it isn't
abbrev pub AddsChanged : FlatEntries → FlatEntries → TypeDeclaration → Option TypeDeclaration
    → Type 0
AddsChanged before after t None = after ≡ before
AddsChanged before after t (Some flat) = AddsFlat before after t flat

-- the flat type at the name of a type was taken out, and none else
abbrev pub TakesFlat : FlatEntries → FlatEntries → TypeDeclaration → Type 0
TakesFlat before after t = (name : List ℕ) → bytes_eq t.name name ≡ false
    → flat_at after name ≡ flat_at before name

-- each type that was seen finds its flat type, and at other names stands none
abbrev pub HaveFlats : FlatEntries → List TypeDeclaration → List TypeDeclaration → Type 0
HaveFlats entries types seen =
    ((t : TypeDeclaration) → IsAmong t types → is_type_named t.name seen ≡ true
    → found_at entries t ≡ flat_type types t)
    × ((name : List ℕ) → is_type_named name seen ≡ false → flat_at entries name ≡ None)

-- the flat types of an order of these types, where each type stands after all that it extends
abbrev pub FlatsAlong : List (Bor (List ℕ) × List TypeDeclaration) → FlatEntries
    → List TypeDeclaration → List TypeDeclaration → Type 0
FlatsAlong lines entries types order = has_duplicate types ≡ false → has_other_base types ≡ false
    → HaveLines lines types → StandBehind types [] order → HaveFlats entries types order

-- the flat type of each, where it isn't the type as it is declared
abbrev pub changed_at : FlatEntries → List TypeDeclaration → List (Option TypeDeclaration)
changed_at entries types = map (λ (t : TypeDeclaration). flat_at entries t.name) types

-- these types, with what stands in the place of each, where there is something
abbrev pub with_changed : List TypeDeclaration → List (Option TypeDeclaration) → List TypeDeclaration
with_changed [] changed = []
with_changed (t ∷ ts) [] = t ∷ ts
with_changed (t ∷ ts) (flat ∷ changed) = unwrap_or flat t ∷ with_changed ts changed

-- With these in their places the types are flat.
pub record AreChanged (types : List TypeDeclaration)
    (changed : List (Option TypeDeclaration)) : Type 0 where
  pub places : length changed ≡ length types
  pub flat : with_changed types changed ≡ map (flat_type types) types
