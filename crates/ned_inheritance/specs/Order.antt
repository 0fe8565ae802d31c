-- An order in which types stand after all that they extend, and what is on the way to it.
use Rattle.std.specs.Prelude.{◌≡◌, ◌⊎◌, ℕ, zero, suc, Bool, true, false, not, ◌||◌, ◌&&◌}
use Rattle.std.specs.Prelude.{List, [], ◌∷◌, ◌++◌, Option, Some, None, if◌then◌else◌, slice_get}
use Rattle.std.specs.Str.{bytes_eq}
use Rattle.std.specs.List.{list_all}
use Rattle.std.specs.Option.{option_and_then, option_map, unwrap_or}
use Rattle.ned_trees.specs.declared.declarations.TypeDeclaration.{TypeDeclaration}
use Rattle.ned_types.specs.Types.{is_interface_kind, is_type_named}
use Rattle.ned_types.specs.WellFormed.{IsAmong}
use Rattle.ned_inheritance.specs.declared.places.Member.{Member}
use Rattle.ned_inheritance.specs.declared.places.Member.TheVariants.{Whole, Base, Interface}
use Rattle.ned_inheritance.specs.Circles.{extended_name}
use Rattle.ned_inheritance.specs.Named.{StandBehind}
use Rattle.ned_inheritance.specs.Places.{first_from}

-- the type of that name was seen, where there is one
abbrev pub is_name_ready : List TypeDeclaration → List TypeDeclaration → List ℕ → Bool
is_name_ready types seen name = not (is_type_named name types) || is_type_named name seen

abbrev pub is_base_ready : List TypeDeclaration → List TypeDeclaration → Option (List ℕ) → Bool
is_base_ready types seen None = true
is_base_ready types seen (Some name) = is_name_ready types seen name

abbrev pub are_ready : List TypeDeclaration → List TypeDeclaration → List (List ℕ) → Bool
are_ready types seen names = list_all (λ n. is_name_ready types seen n) names

-- whether all types that a type extends were seen
abbrev pub is_ready : List TypeDeclaration → List TypeDeclaration → TypeDeclaration → Bool
is_ready types seen t = is_base_ready types seen t.base
    && (not (is_interface_kind t.kind) || are_ready types seen t.interfaces)

abbrev pub AreAmong : List TypeDeclaration → List TypeDeclaration → Type 0
AreAmong some types = (x : TypeDeclaration) → IsAmong x some → IsAmong x types

-- each name of the types is that of one of these or of one of those
abbrev pub Covers : List TypeDeclaration → List TypeDeclaration → List TypeDeclaration → Type 0
Covers types seen rest = (name : List ℕ) → is_type_named name types ≡ true
    → (is_type_named name seen || is_type_named name rest) ≡ true

-- an order of some of the types, each after all that it extends, and others, among which are all
-- that it lacks
abbrev pub IsUnderWay : List TypeDeclaration → List TypeDeclaration → List TypeDeclaration → Type 0
IsUnderWay types order left =
    AreAmong left types × Covers types order left × StandBehind types [] order

-- none of these can be added to the order
abbrev pub AreStuck : List TypeDeclaration → List TypeDeclaration → List TypeDeclaration → Type 0
AreStuck types order left = (x : TypeDeclaration) → IsAmong x left → is_ready types order x ≡ false

-- a type was added to the order, or it is there, or it waits
abbrev pub TakesOne : List TypeDeclaration → List TypeDeclaration → List TypeDeclaration
    → List TypeDeclaration → List TypeDeclaration → TypeDeclaration → Bool → Type 0
TakesOne types before after waited waiting t true =
    (after ≡ before ++ t ∷ []) × (waiting ≡ waited) × (is_ready types before t ≡ true)
    × (is_type_named t.name before ≡ false)
TakesOne types before after waited waiting t false =
    (after ≡ before)
    × (((waiting ≡ waited) × (is_type_named t.name before ≡ true))
    ⊎ ((waiting ≡ waited ++ t ∷ []) × (is_ready types before t ≡ false)))

-- an order of all types, each after all that it extends
abbrev pub IsOrder : List TypeDeclaration → List TypeDeclaration → Type 0
IsOrder types order = StandBehind types [] order
    × ((name : List ℕ) → is_type_named name types ≡ true → is_type_named name order ≡ true)

-- ---- types that are left out of an order

-- some of the types are left out, and each of these extends one of them
abbrev pub AreLeft : List TypeDeclaration → List TypeDeclaration → Type 0
AreLeft types order =
    ((t : TypeDeclaration) × IsAmong t types × (is_type_named t.name order ≡ false))
    × ((t : TypeDeclaration) → IsAmong t types → is_type_named t.name order ≡ false
    → is_ready types order t ≡ false)

-- what of a type names the first that it extends and that is left out
abbrev pub left_in : List TypeDeclaration → List TypeDeclaration → TypeDeclaration → Option Member
left_in types order t = if not (is_base_ready types order t.base) then Some Base
    else (if not (is_interface_kind t.kind) then None
    else option_map Interface (first_from (λ n. not (is_name_ready types order n)) 0 t.interfaces))

-- the number of the type of that name
abbrev pub number_named : List TypeDeclaration → List ℕ → Option ℕ
number_named types name = first_from (λ t. bytes_eq t.name name) 0 types

-- the number of the type that one extends by that member of it
abbrev pub number_by : List TypeDeclaration → TypeDeclaration → Member → Option ℕ
number_by types t member = option_and_then (number_named types) (extended_name t member)

-- the number of the first that a type extends and that is left out
abbrev pub next_of : List TypeDeclaration → List TypeDeclaration → TypeDeclaration → Option ℕ
next_of types order t = option_and_then (number_by types t) (left_in types order t)

-- the same of the type of that number among some; where there is none, that number
abbrev pub next_left : List TypeDeclaration → List TypeDeclaration → List TypeDeclaration → ℕ → ℕ
next_left types order some n =
    unwrap_or (option_and_then (next_of types order) (slice_get some n)) n

-- so many steps, from a type to the next one
abbrev pub steps_left : List TypeDeclaration → List TypeDeclaration → List TypeDeclaration → ℕ → ℕ
    → ℕ
steps_left types order some zero n = n
steps_left types order some (suc k) n = next_left types order some (steps_left types order some k n)

-- the number of the first type that is left out
abbrev pub first_left : List TypeDeclaration → List TypeDeclaration → ℕ
first_left order some = unwrap_or (first_from (λ t. not (is_type_named t.name order)) 0 some) 0

-- what of the type of that number names the first that it extends and that is left out
abbrev pub member_left : List TypeDeclaration → List TypeDeclaration → List TypeDeclaration → ℕ
    → Member
member_left types order some n =
    unwrap_or (option_and_then (left_in types order) (slice_get some n)) Whole
