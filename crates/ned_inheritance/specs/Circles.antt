-- Types that extend themselves, in the words of the manual and not of a count (OMNeT++ Simulation
-- Manual, "Inheritance").
use Rattle.std.specs.Prelude.{◌≡◌, ◌↔◌, ◌⊎◌, ℕ, zero, suc, true, List, Option, Some, None}
use Rattle.std.specs.Prelude.{if◌then◌else◌, slice_get}
use Rattle.ned_trees.specs.declared.declarations.TypeDeclaration.{TypeDeclaration}
use Rattle.ned_types.specs.Types.{is_interface_kind}
use Rattle.ned_inheritance.specs.declared.places.Member.{Member}
use Rattle.ned_inheritance.specs.declared.places.Member.TheVariants.{Base, Interface}
use Rattle.ned_inheritance.specs.declared.places.FaultPlace.{FaultPlace}
use Rattle.ned_inheritance.specs.Inheritance.{has_circle}
use Rattle.ned_types.specs.WellFormed.{IsAmong}

-- a type extends another: that is its base, or one of the interfaces of an interface
abbrev pub Extends : TypeDeclaration → TypeDeclaration → Type 0
Extends t u = (t.base ≡ Some u.name)
    ⊎ ((is_interface_kind t.kind ≡ true) × IsAmong u.name t.interfaces)

-- a way among the types from one to another, each of which extends the next, with so many between
abbrev pub LeadsTo : ℕ → List TypeDeclaration → TypeDeclaration → TypeDeclaration → Type 0
LeadsTo zero types t u = IsAmong u types × Extends t u
LeadsTo (suc n) types t u = (v : TypeDeclaration) × (IsAmong v types × Extends t v)
    × LeadsTo n types v u

-- one of the types extends itself, perhaps by way of others
abbrev pub ExtendsItself : List TypeDeclaration → Type 0
ExtendsItself types = (t : TypeDeclaration) × IsAmong t types × ((n : ℕ) × LeadsTo n types t t)

-- A CIRCLE is found exactly where one of the types extends itself
abbrev pub CirclesAreFound : Type 0
CirclesAreFound = (types : List TypeDeclaration) → (has_circle types ≡ true) ↔ ExtendsItself types

-- ---- the place of a circle

-- the name of what a type extends by that member of it: its base, or for an interface one of its
-- interfaces
abbrev pub extended_name : TypeDeclaration → Member → Option (List ℕ)
extended_name t Base = t.base
extended_name t (Interface n) = if is_interface_kind t.kind then slice_get t.interfaces n else None
extended_name t _ = None

-- what a type extends by that member of it is the type itself, or leads back to it
abbrev pub GoesRound : List TypeDeclaration → TypeDeclaration → Member → Type 0
GoesRound types t member = (u : TypeDeclaration) × IsAmong u types
    × (extended_name t member ≡ Some u.name) × ((u ≡ t) ⊎ ((n : ℕ) × LeadsTo n types u t))

-- THE PLACE of a circle: the type of that number extends itself, perhaps by way of others, and the
-- member of it says by what it does
abbrev pub IsCirclePlace : List TypeDeclaration → FaultPlace → Type 0
IsCirclePlace types p = (t : TypeDeclaration) × (slice_get types p.number ≡ Some t)
    × GoesRound types t p.member
