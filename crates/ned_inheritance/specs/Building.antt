-- Why declared types make no model, and the table of those that do.
use Rattle.std.specs.Prelude.{◌≡◌, ◌⊎◌, ℕ, true, false, ◌||◌, List, [], Option, Some, None, Result}
use Rattle.std.specs.Prelude.{Ok, Err, if◌then◌else◌}
use Rattle.ned_trees.specs.declared.declarations.TypeDeclaration.{TypeDeclaration}
use Rattle.ned_trees.specs.declared.declarations.TypeKind.{TypeKind}
use Rattle.ned_trees.specs.declared.declarations.TypeKind.TheVariants.{Simple, Module, Network}
use Rattle.ned_trees.specs.declared.declarations.TypeKind.TheVariants.{Channel, ModuleInterface}
use Rattle.ned_trees.specs.declared.declarations.TypeKind.TheVariants.{ChannelInterface}
use Rattle.ned_inheritance.specs.declared.table.TypeFault.{TypeFault}
use Rattle.ned_inheritance.specs.declared.table.TypeFault.TheVariants.{DuplicateType, UnknownType}
use Rattle.ned_inheritance.specs.declared.table.TypeFault.TheVariants.{InheritanceCircle, KindClash}
use Rattle.ned_inheritance.specs.declared.table.TypeFault.TheVariants.{Interface}
use Rattle.ned_inheritance.specs.declared.table.BuildError.{BuildError}
use Rattle.ned_inheritance.specs.declared.table.BuildError.TheVariants.{Fault, NoMemory}
use Rattle.ned_inheritance.specs.declared.places.FaultPlace.{FaultPlace}
use Rattle.ned_inheritance.specs.Places.{duplicate_from, IsClashPlace, IsFirstClash}
use Rattle.ned_inheritance.specs.Places.{lacked_in, other_in, place_from, unknown_in}
use Rattle.ned_types.specs.Clashes.{has_clash, has_unknown_channels}
use Rattle.ned_types.specs.Types.{has_duplicate, has_inner_network, has_unknown, is_built_in}
use Rattle.ned_types.specs.Types.{is_inner_name}
use Rattle.ned_types.specs.Flat.{or_else}
use Rattle.ned_inheritance.specs.Interfaces.{has_broken, has_other_interface, has_unknown_interface}
use Rattle.ned_inheritance.specs.Interfaces.{can_keep}
use Rattle.ned_inheritance.specs.Circles.{ExtendsItself, IsCirclePlace}
use Rattle.ned_inheritance.specs.Inheritance.{has_unknown_base, has_circle, has_other_base}
use Rattle.ned_inheritance.specs.Inheritance.{flat_types}
use Rattle.ned_inheritance.specs.Flats.{AreChanged}
use Rattle.ned_types.specs.WellFormed.{IsAmong, IsTypeOf, IsWellFormed}

-- the faults of names and bases, in their order
abbrev pub base_fault : List TypeDeclaration → Option TypeFault
base_fault types =
    if has_duplicate types then Some DuplicateType
    else (if has_unknown types
    || (has_unknown_base types || (has_unknown_interface types || has_unknown_channels types))
    then Some UnknownType
    else (if has_circle types then Some InheritanceCircle
    else (if has_inner_network types || (has_other_base types || has_other_interface types)
    then Some KindClash else None)))

-- the faults of flat types: a clash in one of them, and then a member of an interface that one
-- lacks
abbrev pub flat_fault : List TypeDeclaration → Option TypeFault
flat_fault types =
    if has_clash types then Some KindClash
    else (if has_broken types then Some Interface else None)

-- why the types make no model, where they don't: the first rule that they break
abbrev pub fault_of : List TypeDeclaration → Option TypeFault
fault_of types = or_else (base_fault types) (flat_fault (flat_types types))

-- THE PLACE of a fault: the first, type by type, that has it; of a circle a type in one. A clash is
-- one of names and kinds, or else one of flat types, of which the first type that has it is told,
-- and the first member of it that clashes
abbrev pub IsPlace : List TypeDeclaration → TypeFault → FaultPlace → Type 0
IsPlace types DuplicateType p = duplicate_from [] 0 types ≡ Some p.number
IsPlace types UnknownType p = place_from (unknown_in types) 0 types ≡ Some p
IsPlace types InheritanceCircle p = IsCirclePlace types p
IsPlace types KindClash p = IsClashPlace types (place_from (other_in types) 0 types) p
IsPlace types Interface p = place_from (lacked_in (flat_types types)) 0 (flat_types types) ≡ Some p

-- the same of a fault of flat types
abbrev pub IsFlatPlace : List TypeDeclaration → TypeFault → FaultPlace → Type 0
IsFlatPlace types DuplicateType p = ⊥
IsFlatPlace types UnknownType p = ⊥
IsFlatPlace types InheritanceCircle p = ⊥
IsFlatPlace types KindClash p = IsFirstClash types p
IsFlatPlace types Interface p = place_from (lacked_in types) 0 types ≡ Some p

-- the answer to these types: the flat type of each, or their first fault and its place; or memory
-- ran out
abbrev pub Builds : List TypeDeclaration → Result (List TypeDeclaration) BuildError → Type 0
Builds types (Ok table) = (table ≡ flat_types types) × (fault_of types ≡ None)
Builds types (Err (NoMemory _)) = Unit {0}
Builds types (Err (Fault fault place)) = (fault_of types ≡ Some fault) × IsPlace types fault place

-- Names and bases have no fault, and with these in their places the types are flat.
pub record AreUnfaulted (types : List TypeDeclaration)
    (changed : List (Option TypeDeclaration)) : Type 0 where
  pub flat : AreChanged types changed
  pub apart : has_duplicate types ≡ false
  pub bases : base_fault types ≡ None
  pub others : place_from (other_in types) 0 types ≡ None

-- that, or the first fault of names and bases and its place; or memory ran out
abbrev pub BuildsChanged : List TypeDeclaration → Result (List (Option TypeDeclaration)) BuildError
    → Type 0
BuildsChanged types (Ok changed) = AreUnfaulted types changed
BuildsChanged types (Err error) = Builds types (Err error)

-- these flat types where they have no fault, or their first one and its place; or memory ran out
abbrev pub AreFaultless : List TypeDeclaration → Result (List TypeDeclaration) BuildError → Type 0
AreFaultless types (Ok table) = (table ≡ types) × (flat_fault types ≡ None)
AreFaultless types (Err (NoMemory _)) = Unit {0}
AreFaultless types (Err (Fault fault place)) =
    (flat_fault types ≡ Some fault) × IsFlatPlace types fault place

-- the first fault of flat types and its place, or that there is none
abbrev pub TellsFlat : List TypeDeclaration → Option (TypeFault × FaultPlace) → Type 0
TellsFlat types None = flat_fault types ≡ None
TellsFlat types (Some told) = (flat_fault types ≡ Some told.0) × IsFlatPlace types told.0 told.1

-- this table, or lack of memory
abbrev pub AnswersTable : List TypeDeclaration → Result (List TypeDeclaration) BuildError → Type 0
AnswersTable types (Ok table) = table ≡ types
AnswersTable types (Err (NoMemory _)) = Unit {0}
AnswersTable types (Err (Fault _ _)) = ⊥

-- a type of that kind may extend what has that name: a type among these, which is of its own kind,
-- or for a channel a built-in one
abbrev pub MayExtend : TypeKind → List ℕ → List TypeDeclaration → Type 0
MayExtend Simple name types = IsTypeOf Simple name types
MayExtend Module name types = IsTypeOf Network name types ⊎ IsTypeOf Module name types
MayExtend Network name types = IsTypeOf Network name types ⊎ IsTypeOf Module name types
MayExtend Channel name types = (is_built_in name ≡ true) ⊎ IsTypeOf Channel name types
MayExtend ModuleInterface name types = ⊥
MayExtend ChannelInterface name types = ⊥

-- THE RULES of types that extend others:
pub record KeepRules (types : List TypeDeclaration) : Type 0 where
  -- what is extended is among these and of the kind of what extends it, or a built-in channel that
  -- a channel extends;
  pub bases : (t : TypeDeclaration) → IsAmong t types → (name : List ℕ) → t.base ≡ Some name
      → MayExtend t.kind name types
  -- each interface is among these too, and one for types of that kind;
  pub interfaces : (t : TypeDeclaration) → IsAmong t types → (name : List ℕ)
      → IsAmong name t.interfaces → (i : TypeDeclaration) × IsAmong i types × (i.name ≡ name)
      × (can_keep t.kind i.kind ≡ true)
  -- a network stands within no other;
  pub networks : (t : TypeDeclaration) → IsAmong t types → t.kind ≡ Network
      → is_inner_name t.name ≡ false
  -- no type extends itself, perhaps by way of others;
  pub roots : ExtendsItself types → ⊥
  -- and the flat types keep the rules of types.
  pub flat : IsWellFormed (flat_types types)
