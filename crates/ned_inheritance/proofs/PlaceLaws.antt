-- Where a place is found a rule is broken, and where none is found it is kept.
use Rattle.std.proofs.Common.{◌≡◌, ℕ, zero, suc, ◌+◌, Bool, true, false, not, ◌||◌, List, [], ◌∷◌, Option, Some, None, refl, sym, ap, ◌∙◌, subst, arith, drop, slice_get, if◌then◌else◌}
use Rattle.std.specs.Prelude.{is_err, is_some, Err, IfErr, Ok, Result}
use Rattle.std.specs.List.{list_any}
use Rattle.std.specs.Option.{option_map}
use Rattle.ned_trees.specs.declared.connections.ConnectionItem.{ConnectionItem}
use Rattle.ned_trees.specs.declared.declarations.TypeDeclaration.{TypeDeclaration}
use Rattle.ned_types.specs.Flat.{or_else}
use Rattle.ned_types.specs.Types.{is_inner_network, is_submodule_known, names_unknown, type_named}
use Rattle.ned_inheritance.specs.declared.places.Member.{Member}
use Rattle.ned_inheritance.specs.declared.places.Member.TheVariants.{Whole, Base, Interface, Submodule, Channel, LacksParameter, LacksGate}
use Rattle.ned_inheritance.specs.declared.places.FaultPlace.{FaultPlace}
use Rattle.ned_inheritance.specs.Inheritance.{extends_other, extends_unknown}
use Rattle.ned_inheritance.specs.Interfaces.{breaks_interface, has_broken, is_interface_for, keeps_other, lacks_any, lacks_gate, lacks_parameter, names_no_type}
use Rattle.ned_inheritance.specs.Named.{is_other_named, is_unknown_named}
use Rattle.ned_inheritance.specs.Places.{first_from, is_known, lacked_from, lacked_in, lacked_of_any, other_in, place_from, placed, unknown_channel_from, unknown_in}
use Rattle.ned_inheritance.specs.declared.table.TypeFault.{TypeFault}
use Rattle.ned_inheritance.specs.declared.table.TypeFault.TheVariants as fault
use Rattle.ned_inheritance.specs.declared.table.BuildError.TheVariants.{Fault}
use Rattle.ned_types.specs.Clashes.{connections_of, has_clash, has_unknown_channel, is_channel_unknown}
use Rattle.ned_types.specs.Types.{has_duplicate}
use Rattle.ned_inheritance.specs.Building.{base_fault, Builds, flat_fault, TellsFlat}
use Rattle.ned_inheritance.specs.Circles.{IsCirclePlace}
use Rattle.ned_inheritance.specs.Inheritance.{flat_types, has_circle}
use Rattle.ned_inheritance.specs.Places.{IsClashPlace}
use Rattle.ned_inheritance.proofs.Repeats.{mixed}

pub picked : {X : Type 0} (picks : X → Bool) (n : ℕ) (xs : List X) → is_some (first_from picks n xs) ≡ list_any picks xs
picked picks n [] = refl
picked picks n (x ∷ xs) = by (picks x) (picked picks (suc n) xs)
  where
    by : (b : Bool) → is_some (first_from picks (suc n) xs) ≡ list_any picks xs → is_some (if b then Some n else first_from picks (suc n) xs) ≡ (b || list_any picks xs)
    by true later = refl
    by false later = later

-- the first of those that are picked in two ways is one
pub first_like : {X : Type 0} (p q : X → Bool) → ((x : X) → p x ≡ q x) → (n : ℕ) (xs : List X) → first_from p n xs ≡ first_from q n xs
first_like p q same n [] = refl
first_like p q same n (x ∷ xs) =
    ap (λ b. if b then Some n else first_from p (suc n) xs) (same x)
    ∙ ap (λ o. if q x then Some n else o) (first_like p q same (suc n) xs)

pub drop_at : {X : Type 0} (xs : List X) (n : ℕ) (x : X) → slice_get xs n ≡ Some x → drop n xs ≡ x ∷ drop (suc n) xs
drop_at [] n x e = cc
drop_at (y ∷ ys) zero x e = let same : y ≡ x = cc in ap (λ z. z ∷ ys) same
drop_at (y ∷ ys) (suc n) x e = drop_at ys n x e

-- one that is not picked is passed
pub passed : {X : Type 0} (picks : X → Bool) (n : ℕ) (xs : List X) (x : X) (all : Option ℕ) → slice_get xs n ≡ Some x → picks x ≡ false → first_from picks n (drop n xs) ≡ all → first_from picks (n + 1) (drop (n + 1) xs) ≡ all
passed picks n xs x all here none told =
    let next : n + 1 ≡ suc n = omega arith in
    ap (λ k. first_from picks k (drop k xs)) next
    ∙ sym (ap (λ b. if b then Some n else first_from picks (suc n) (drop (suc n) xs)) none)
    ∙ sym (ap (first_from picks n) (drop_at xs n x here))
    ∙ told

placed_told : (n : ℕ) (m : Option Member) (later : Option FaultPlace) → is_some (or_else (placed n m) later) ≡ (is_some m || is_some later)
placed_told n None later = refl
placed_told n (Some m) later = refl

pub place_told : (broken : TypeDeclaration → Option Member) (n : ℕ) (ts : List TypeDeclaration) → is_some (place_from broken n ts) ≡ list_any (λ t. is_some (broken t)) ts
place_told broken n [] = refl
place_told broken n (t ∷ ts) = placed_told n (broken t) (place_from broken (suc n) ts) ∙ ap (λ b. is_some (broken t) || b) (place_told broken (suc n) ts)

pub any_like : {X : Type 0} (p q : X → Bool) → ((x : X) → p x ≡ q x) → (xs : List X) → list_any p xs ≡ list_any q xs
any_like p q h [] = refl
any_like p q h (x ∷ xs) = ap (λ b. b || list_any p xs) (h x) ∙ ap (λ b. q x || b) (any_like p q h xs)

pub any_or : {X : Type 0} (p q : X → Bool) (xs : List X) → list_any (λ x. p x || q x) xs ≡ (list_any p xs || list_any q xs)
any_or p q [] = refl
any_or p q (x ∷ xs) = ap (λ b. (p x || q x) || b) (any_or p q xs) ∙ mixed (p x) (q x) (list_any p xs) (list_any q xs)

-- as the definitions name them: what a submodule names first
rotated : (a b c d : Bool) → (a || (b || (c || d))) ≡ (c || (a || (b || d)))
rotated true b true d = refl
rotated true b false d = refl
rotated false true true d = refl
rotated false true false d = refl
rotated false false true d = refl
rotated false false false d = refl

pub map_told : {X Y : Type 0} (f : X → Y) (o : Option X) → is_some (option_map f o) ≡ is_some o
map_told f None = refl
map_told f (Some x) = refl

pub else_told : {X : Type 0} (a b : Option X) → is_some (or_else a b) ≡ (is_some a || is_some b)
else_told None b = refl
else_told (Some x) b = refl

pub if_told : {X : Type 0} (b : Bool) (x : X) (o : Option X) → is_some (if b then Some x else o) ≡ (b || is_some o)
if_told true x o = refl
if_told false x o = refl

-- ---- names that are unknown

channel_told : (types : List TypeDeclaration) (n : ℕ) (items : List ConnectionItem) → is_some (unknown_channel_from types n items) ≡ has_unknown_channel types items
channel_told types n [] = refl
channel_told types n (i ∷ items) =
    let line = first_from (λ l. is_channel_unknown types l) 0 (connections_of i) in
    else_told (option_map (Channel n) line) (unknown_channel_from types (suc n) items)
    ∙ ap (λ b. b || is_some (unknown_channel_from types (suc n) items)) (map_told (Channel n) line ∙ picked (λ l. is_channel_unknown types l) 0 (connections_of i))
    ∙ ap (λ b. list_any (λ l. is_channel_unknown types l) (connections_of i) || b) (channel_told types (suc n) items)

unknown_one : (types : List TypeDeclaration) (t : TypeDeclaration) → is_some (unknown_in types t) ≡ (extends_unknown types t.base || (names_no_type types t.interfaces || (names_unknown types t.submodules || has_unknown_channel types t.connections.items)))
unknown_one types t =
    let names = first_from (λ n. not (is_known n types)) 0 t.interfaces in
    let submodules = first_from (λ s. not (is_submodule_known types s)) 0 t.submodules in
    let channels = unknown_channel_from types 0 t.connections.items in
    if_told (extends_unknown types t.base) Base (or_else (option_map Interface names) (or_else (option_map Submodule submodules) channels))
    ∙ ap (λ b. extends_unknown types t.base || b) (else_told (option_map Interface names) (or_else (option_map Submodule submodules) channels)
    ∙ ap (λ b. b || is_some (or_else (option_map Submodule submodules) channels)) (map_told Interface names ∙ picked (λ n. not (is_known n types)) 0 t.interfaces)
    ∙ ap (λ b. names_no_type types t.interfaces || b) (else_told (option_map Submodule submodules) channels
    ∙ ap (λ b. b || is_some channels) (map_told Submodule submodules ∙ picked (λ s. not (is_submodule_known types s)) 0 t.submodules)
    ∙ ap (λ b. names_unknown types t.submodules || b) (channel_told types 0 t.connections.items)))

pub unknown_told : (types ts : List TypeDeclaration) → is_some (place_from (unknown_in types) 0 ts) ≡ is_unknown_named types ts
unknown_told types ts =
    place_told (unknown_in types) 0 ts
    ∙ any_like (λ t. is_some (unknown_in types t)) (λ t. extends_unknown types t.base || (names_no_type types t.interfaces || (names_unknown types t.submodules || has_unknown_channel types t.connections.items))) (unknown_one types) ts
    ∙ any_or (λ t. extends_unknown types t.base) (λ t. names_no_type types t.interfaces || (names_unknown types t.submodules || has_unknown_channel types t.connections.items)) ts
    ∙ ap (λ b. list_any (λ t. extends_unknown types t.base) ts || b) (any_or (λ t. names_no_type types t.interfaces) (λ t. names_unknown types t.submodules || has_unknown_channel types t.connections.items) ts
    ∙ ap (λ b. list_any (λ t. names_no_type types t.interfaces) ts || b) (any_or (λ t. names_unknown types t.submodules) (λ t. has_unknown_channel types t.connections.items) ts))
    ∙ rotated (list_any (λ t. extends_unknown types t.base) ts) (list_any (λ t. names_no_type types t.interfaces) ts) (list_any (λ t. names_unknown types t.submodules) ts) (list_any (λ t. has_unknown_channel types t.connections.items) ts)

-- ---- other kinds

other_one : (types : List TypeDeclaration) (t : TypeDeclaration) → is_some (other_in types t) ≡ (is_inner_network t || (extends_other types t.kind t.base || keeps_other types t.kind t.interfaces))
other_one types t =
    let names = first_from (λ n. not (is_interface_for t.kind (type_named n types))) 0 t.interfaces in
    if_told (is_inner_network t) Whole (if extends_other types t.kind t.base then Some Base else option_map Interface names)
    ∙ ap (λ b. is_inner_network t || b) (if_told (extends_other types t.kind t.base) Base (option_map Interface names)
    ∙ ap (λ b. extends_other types t.kind t.base || b) (map_told Interface names ∙ picked (λ n. not (is_interface_for t.kind (type_named n types))) 0 t.interfaces))

pub other_told : (types ts : List TypeDeclaration) → is_some (place_from (other_in types) 0 ts) ≡ is_other_named types ts
other_told types ts =
    place_told (other_in types) 0 ts
    ∙ any_like (λ t. is_some (other_in types t)) (λ t. is_inner_network t || (extends_other types t.kind t.base || keeps_other types t.kind t.interfaces)) (other_one types) ts
    ∙ any_or is_inner_network (λ t. extends_other types t.kind t.base || keeps_other types t.kind t.interfaces) ts
    ∙ ap (λ b. list_any is_inner_network ts || b) (any_or (λ t. extends_other types t.kind t.base) (λ t. keeps_other types t.kind t.interfaces) ts)

-- ---- members that are lacked

lacked_one : (t : TypeDeclaration) (n : ℕ) (o : Option TypeDeclaration) → is_some (lacked_of_any t n o) ≡ lacks_any t o
lacked_one t n None = refl
lacked_one t n (Some i) =
    let lines = first_from (λ l. lacks_parameter t.lines l) 0 i.lines in
    let gates = first_from (λ g. lacks_gate t.gates g) 0 i.gates in
    else_told (option_map (LacksParameter n) lines) (option_map (LacksGate n) gates)
    ∙ ap (λ b. b || is_some (option_map (LacksGate n) gates)) (map_told (LacksParameter n) lines ∙ picked (λ l. lacks_parameter t.lines l) 0 i.lines)
    ∙ ap (λ b. list_any (λ l. lacks_parameter t.lines l) i.lines || b) (map_told (LacksGate n) gates ∙ picked (λ g. lacks_gate t.gates g) 0 i.gates)

lacked_some : (types : List TypeDeclaration) (t : TypeDeclaration) (n : ℕ) (names : List (List ℕ)) → is_some (lacked_from types t n names) ≡ list_any (λ m. lacks_any t (type_named m types)) names
lacked_some types t n [] = refl
lacked_some types t n (name ∷ names) =
    else_told (lacked_of_any t n (type_named name types)) (lacked_from types t (suc n) names)
    ∙ ap (λ b. b || is_some (lacked_from types t (suc n) names)) (lacked_one t n (type_named name types))
    ∙ ap (λ b. lacks_any t (type_named name types) || b) (lacked_some types t (suc n) names)

pub lacked_told : (types ts : List TypeDeclaration) → is_some (place_from (lacked_in types) 0 ts) ≡ list_any (λ t. breaks_interface types t) ts
lacked_told types ts =
    place_told (lacked_in types) 0 ts
    ∙ any_like (λ t. is_some (lacked_in types t)) (λ t. breaks_interface types t) (λ t. lacked_some types t 0 t.interfaces) ts

-- ---- the faults of names and kinds, by what was found

abbrev base_of : Bool → Bool → Bool → Bool → Option TypeFault
base_of duplicate unknown circle other = if duplicate then Some fault.DuplicateType else (if unknown then Some fault.UnknownType else (if circle then Some fault.InheritanceCircle else (if other then Some fault.KindClash else None)))

pub unknown_found : (types : List TypeDeclaration) (p : FaultPlace) → has_duplicate types ≡ false → place_from (unknown_in types) 0 types ≡ Some p → Builds types (Err (Fault fault.UnknownType p))
unknown_found types p apart found =
    let unknown = sym (unknown_told types types) ∙ ap is_some found in (
      ap (λ b. or_else (base_of b (is_unknown_named types types) (has_circle types) (is_other_named types types)) (flat_fault (flat_types types))) apart
          ∙ ap (λ b. or_else (base_of false b (has_circle types) (is_other_named types types)) (flat_fault (flat_types types))) unknown,
      found,
    )

pub circle_found : (types : List TypeDeclaration) (p : FaultPlace) → has_duplicate types ≡ false → place_from (unknown_in types) 0 types ≡ None → has_circle types ≡ true → IsCirclePlace types p → Builds types (Err (Fault fault.InheritanceCircle p))
circle_found types p apart none circle place =
    let known = sym (unknown_told types types) ∙ ap is_some none in (
      ap (λ b. or_else (base_of b (is_unknown_named types types) (has_circle types) (is_other_named types types)) (flat_fault (flat_types types))) apart
          ∙ ap (λ b. or_else (base_of false b (has_circle types) (is_other_named types types)) (flat_fault (flat_types types))) known
          ∙ ap (λ b. or_else (base_of false false b (is_other_named types types)) (flat_fault (flat_types types))) circle,
      place,
    )

-- what is answered in place of an order
pub circle_answered : {X : Type 0} (types : List TypeDeclaration) (order : Result X FaultPlace) (p : FaultPlace) → order ≡ Err p → IfErr order (IsCirclePlace types) → is_err order ≡ has_circle types → (has_circle types ≡ true) × IsCirclePlace types p
circle_answered types (Ok x) p e place circle = cc
circle_answered types (Err q) p e place circle = let same : q ≡ p = cc in (sym circle, subst (IsCirclePlace types) same place)

pub other_found : (types : List TypeDeclaration) (p : FaultPlace) → has_duplicate types ≡ false → place_from (unknown_in types) 0 types ≡ None → has_circle types ≡ false → place_from (other_in types) 0 types ≡ Some p → Builds types (Err (Fault fault.KindClash p))
other_found types p apart none roots found =
    let known = sym (unknown_told types types) ∙ ap is_some none in
    let other = sym (other_told types types) ∙ ap is_some found in (
      ap (λ b. or_else (base_of b (is_unknown_named types types) (has_circle types) (is_other_named types types)) (flat_fault (flat_types types))) apart
          ∙ ap (λ b. or_else (base_of false b (has_circle types) (is_other_named types types)) (flat_fault (flat_types types))) known
          ∙ ap (λ b. or_else (base_of false false b (is_other_named types types)) (flat_fault (flat_types types))) roots
          ∙ ap (λ b. or_else (base_of false false false b) (flat_fault (flat_types types))) other,
      subst (λ o. IsClashPlace types o p) (sym found) refl,
    )

pub none_found : (types : List TypeDeclaration) → has_duplicate types ≡ false → place_from (unknown_in types) 0 types ≡ None → has_circle types ≡ false → place_from (other_in types) 0 types ≡ None → base_fault types ≡ None
none_found types apart none roots alike =
    let known = sym (unknown_told types types) ∙ ap is_some none in
    let same = sym (other_told types types) ∙ ap is_some alike in
    ap (λ b. base_of b (is_unknown_named types types) (has_circle types) (is_other_named types types)) apart
    ∙ ap (λ b. base_of false b (has_circle types) (is_other_named types types)) known
    ∙ ap (λ b. base_of false false b (is_other_named types types)) roots
    ∙ ap (λ b. base_of false false false b) same

-- ---- the faults of flat types, by what was found

abbrev pub flat_of : Bool → Bool → Option TypeFault
flat_of clash broken = if clash then Some fault.KindClash else (if broken then Some fault.Interface else None)

pub lacked_tells : (types : List TypeDeclaration) (p : FaultPlace) → has_clash types ≡ false → place_from (lacked_in types) 0 types ≡ Some p → TellsFlat types (Some (fault.Interface, p))
lacked_tells types p none found =
    let broken : has_broken types ≡ true = sym (lacked_told types types) ∙ ap is_some found in (
      ap (λ b. flat_of b (has_broken types)) none ∙ ap (flat_of false) broken,
      found,
    )

pub none_tells : (types : List TypeDeclaration) → has_clash types ≡ false → place_from (lacked_in types) 0 types ≡ None → TellsFlat types None
none_tells types none whole =
    let kept : has_broken types ≡ false = sym (lacked_told types types) ∙ ap is_some whole in
    ap (λ b. flat_of b (has_broken types)) none ∙ ap (flat_of false) kept
