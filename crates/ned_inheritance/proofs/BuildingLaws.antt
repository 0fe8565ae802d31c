-- Types have no fault exactly where they keep the rules.
use Rattle.std.proofs.Common.{◌≡◌, ◌≢◌, inl, inr, ℕ, Bool, true, false, not, ◌||◌, ◌&&◌, ◌⊎◌, List, [], ◌∷◌, map, length, Option, Some, None, Result, Ok, Err, IfOk, refl, sym, ap, subst, ◌∙◌, if◌then◌else◌}
use Rattle.std.specs.List.{list_any}
use Rattle.std.specs.Str.{bytes_eq}
use Rattle.ned_trees.specs.declared.connections.Channel as channel
use Rattle.ned_trees.specs.declared.connections.ConnectionItem.{ConnectionItem}
use Rattle.ned_trees.specs.declared.declarations.SectionLine.{SectionLine}
use Rattle.ned_trees.specs.declared.declarations.Submodule.{Submodule}
use Rattle.ned_trees.specs.declared.declarations.TypeDeclaration.{TypeDeclaration}
use Rattle.ned_trees.specs.declared.declarations.TypeKind.{TypeKind}
use Rattle.ned_trees.specs.declared.declarations.TypeKind.TheVariants.{Simple, Module, Network, Channel, ModuleInterface, ChannelInterface}
use Rattle.ned_inheritance.specs.declared.table.TypeFault.{TypeFault}
use Rattle.ned_inheritance.specs.declared.table.TypeFault.TheVariants.{DuplicateType, UnknownType, InheritanceCircle, KindClash, Interface}
use Rattle.ned_inheritance.specs.declared.table.BuildError.{BuildError}
use Rattle.ned_inheritance.specs.declared.table.BuildError.TheVariants.{Fault, NoMemory}
use Rattle.ned_inheritance.specs.declared.places.FaultPlace.{FaultPlace}
use Rattle.ned_inheritance.specs.Places.{IsClashPlace, other_in, place_from}
use Rattle.ned_types.specs.Types as t
use Rattle.ned_inheritance.specs.Interfaces as f
use Rattle.ned_inheritance.specs.Circles.{ExtendsItself}
use Rattle.ned_inheritance.specs.Inheritance as i
use Rattle.ned_inheritance.specs.Flats.{with_changed}
use Rattle.ned_inheritance.specs.Building.{base_fault, fault_of, flat_fault, AnswersTable, AreFaultless, AreUnfaulted, Builds, KeepRules, IsFlatPlace, IsPlace, MayExtend}
use Rattle.ned_types.specs.Clashes as k
use Rattle.ned_types.specs.Flat.{named_or, or_else}
use Rattle.ned_types.specs.WellFormed.{HasChannel, IsAmong, IsChannelNamed, IsTypeOf, StandsBefore, IsWellFormed}
use Rattle.ned_inheritance.proofs.WellFormedLaws.{types_apart, false_not, any_made, any_told, among_second, no_duplicate, no_unknown, no_clash, well_formed, named_is, named_found, or_second, any_is, names_same, type_is}
use Rattle.ned_inheritance.proofs.Circles.{circle_is_one}
use Rattle.ned_inheritance.proofs.InterfaceLaws.{kept_made, kept_told}

-- ---- flat types have the names and kinds of the types, and their submodules

joined_name : (flat : TypeDeclaration) (ts : List TypeDeclaration) → (i.joined_with flat ts).name ≡ flat.name
joined_name flat [] = refl
joined_name flat (t ∷ ts) = joined_name flat ts

gathered_name : (flat : TypeDeclaration) (ts : List TypeDeclaration) → (i.gathered flat ts).name ≡ flat.name
gathered_name flat [] = refl
gathered_name flat (t ∷ ts) = gathered_name (i.with_members flat t) ts

flat_name : (all : List TypeDeclaration) (a : TypeDeclaration) → (i.flat_type all a).name ≡ a.name
flat_name all a = of_kind (t.is_interface_kind a.kind)
  where
    by : (base : Option (List ℕ)) → (i.flat_by all a base).name ≡ a.name
    by None = refl
    by (Some name) = joined_name (i.bare_derived all a) (i.line_of all a)

    of_kind : (b : Bool) → (i.flat_as b all a).name ≡ a.name
    of_kind true = gathered_name (i.bare a) (i.interfaces_behind all a.interfaces)
    of_kind false = by a.base

flat_has : (types : List TypeDeclaration) (a : TypeDeclaration) → IsAmong a types → (s : Submodule) → IsAmong s a.submodules → IsAmong s (i.flat_type types a).submodules
flat_has [] a is s in-a = absurd is
flat_has (u ∷ ts) a is s in-a = of_kind (t.is_interface_kind a.kind)
  where
    by : (base : Option (List ℕ)) → IsAmong s (i.flat_by (u ∷ ts) a base).submodules
    by None = in-a
    by (Some name) = among_second s (i.joined_with (i.bare_derived (u ∷ ts) a) (i.line_within (length ts) (u ∷ ts) (i.base_of (u ∷ ts) a.base))).submodules a.submodules in-a

    of_kind : (b : Bool) → IsAmong s (i.flat_as b (u ∷ ts) a).submodules
    of_kind true = among_second s (i.gathered (i.bare a) (i.interfaces_behind (u ∷ ts) a.interfaces)).submodules a.submodules in-a
    of_kind false = by a.base

item_has : (types : List TypeDeclaration) (a : TypeDeclaration) → IsAmong a types → (x : ConnectionItem) → IsAmong x a.connections.items → IsAmong x (i.flat_type types a).connections.items
item_has [] a is x in-a = absurd is
item_has (u ∷ ts) a is x in-a = of_kind (t.is_interface_kind a.kind)
  where
    by : (base : Option (List ℕ)) → IsAmong x (i.flat_by (u ∷ ts) a base).connections.items
    by None = in-a
    by (Some name) = among_second x (i.joined_with (i.bare_derived (u ∷ ts) a) (i.line_within (length ts) (u ∷ ts) (i.base_of (u ∷ ts) a.base))).connections.items a.connections.items in-a

    of_kind : (b : Bool) → IsAmong x (i.flat_as b (u ∷ ts) a).connections.items
    of_kind true = among_second x (i.gathered (i.bare a) (i.interfaces_behind (u ∷ ts) a.interfaces)).connections.items a.connections.items in-a
    of_kind false = by a.base

among_flat : (all : List TypeDeclaration) (a : TypeDeclaration) (ts : List TypeDeclaration) → IsAmong a ts → IsAmong (i.flat_type all a) (map (i.flat_type all) ts)
among_flat all a [] is = absurd is
among_flat all a (t ∷ ts) (inl e) = inl (ap (i.flat_type all) e)
among_flat all a (t ∷ ts) (inr is) = inr (among_flat all a ts is)

named_flat : (all : List TypeDeclaration) (name : List ℕ) (ts : List TypeDeclaration) → t.is_type_named name (map (i.flat_type all) ts) ≡ t.is_type_named name ts
named_flat all name [] = refl
named_flat all name (a ∷ ts) =
    ap (λ (n : List ℕ). bytes_eq n name || t.is_type_named name (map (i.flat_type all) ts)) (flat_name all a)
    ∙ ap (λ (b : Bool). bytes_eq a.name name || b) (named_flat all name ts)

pub duplicate_flat : (all ts : List TypeDeclaration) → t.has_duplicate (map (i.flat_type all) ts) ≡ t.has_duplicate ts
duplicate_flat all [] = refl
duplicate_flat all (a ∷ ts) =
    ap (λ (n : List ℕ). (t.is_built_in n || t.is_type_named n (map (i.flat_type all) ts)) || t.has_duplicate (map (i.flat_type all) ts)) (flat_name all a)
    ∙ ap (λ (b : Bool). (t.is_built_in a.name || b) || t.has_duplicate (map (i.flat_type all) ts)) (named_flat all a.name ts)
    ∙ ap (λ (b : Bool). (t.is_built_in a.name || t.is_type_named a.name ts) || b) (duplicate_flat all ts)

known_flat : (all types : List TypeDeclaration) (s : Submodule) → t.is_submodule_known (map (i.flat_type all) types) s ≡ t.is_submodule_known types s
known_flat all types s = ap (λ (b : Bool). t.is_built_in (t.type_name s) || b) (named_flat all (t.type_name s) types)

unknown_in : (all types : List TypeDeclaration) (ss : List Submodule) → t.names_unknown (map (i.flat_type all) types) ss ≡ t.names_unknown types ss
unknown_in all types [] = refl
unknown_in all types (s ∷ ss) =
    ap (λ (b : Bool). not b || t.names_unknown (map (i.flat_type all) types) ss) (known_flat all types s)
    ∙ ap (λ (b : Bool). not (t.is_submodule_known types s) || b) (unknown_in all types ss)

-- where the submodules of all flat types have known types, so have those of the types
unknown_flat : (types : List TypeDeclaration) → t.has_unknown (i.flat_types types) ≡ false → t.has_unknown types ≡ false
unknown_flat types none = any_made (λ a. t.names_unknown types a.submodules) types (λ a is. any_made (λ s. not (t.is_submodule_known types s)) a.submodules (λ s in-a. any_told (λ r. not (t.is_submodule_known types r)) (i.flat_type types a).submodules (flat a is) s (flat_has types a is s in-a)))
  where
    flat : (a : TypeDeclaration) → IsAmong a types → t.names_unknown types (i.flat_type types a).submodules ≡ false
    flat a is = sym (unknown_in types types (i.flat_type types a).submodules) ∙ any_told (λ x. t.names_unknown (i.flat_types types) x.submodules) (i.flat_types types) none (i.flat_type types a) (among_flat types a types is)

-- ---- no fault

-- the fault by the tests
abbrev by_tests : Bool → Bool → Bool → Bool → Bool → Bool → Option TypeFault
by_tests duplicate unknown circle other clash broken =
    or_else (if duplicate then Some DuplicateType else (if unknown then Some UnknownType else (if circle then Some InheritanceCircle else (if other then Some KindClash else None))))
    (if clash then Some KindClash else (if broken then Some Interface else None))

-- none of the tests is passed where nothing is told
no_fault : (duplicate unknown circle other clash broken : Bool) → by_tests duplicate unknown circle other clash broken ≡ None → (duplicate ≡ false) × (clash ≡ false) × (broken ≡ false)
no_fault false false false false false false h = (refl, refl, refl)
no_fault false false false false false true h = absurd cc
no_fault false false false false true broken h = absurd cc
no_fault false false false true clash broken h = absurd cc
no_fault false false true other clash broken h = absurd cc
no_fault false true circle other clash broken h = absurd cc
no_fault true unknown circle other clash broken h = absurd cc

none_parts : (types : List TypeDeclaration) → fault_of types ≡ None → (t.has_duplicate types ≡ false) × (k.has_clash (i.flat_types types) ≡ false) × (f.has_broken (i.flat_types types) ≡ false)
none_parts types none = no_fault (t.has_duplicate types) (t.has_unknown types || (i.has_unknown_base types || (f.has_unknown_interface types || k.has_unknown_channels types))) (i.has_circle types) (t.has_inner_network types || (i.has_other_base types || f.has_other_interface types)) (k.has_clash (i.flat_types types)) (f.has_broken (i.flat_types types)) none

-- types without a fault have flat types that keep the rules
flat_rules : (types : List TypeDeclaration) → fault_of types ≡ None → IsWellFormed (i.flat_types types)
flat_rules types none =
    let parts = none_parts types none in
    let duplicate = duplicate_flat types types ∙ parts.0 in
    well_formed (i.flat_types types) duplicate parts.1 (kept_told (i.flat_types types) (types_apart (i.flat_types types) duplicate) parts.2)

-- ---- what is extended

or_first : (x y : Bool) → x ≡ true → (x || y) ≡ true
or_first x y h = ap (λ b. b || y) h

-- a compound module or a network of that name is found
abbrev IsCompound : List TypeDeclaration → List ℕ → Type 0
IsCompound types name = IsTypeOf Network name types ⊎ IsTypeOf Module name types

compound_found : (types : List TypeDeclaration) (name : List ℕ) → IsCompound types name → t.is_type_named name types ≡ true
compound_found types name (inl m) = named_found types Network name m
compound_found types name (inr m) = named_found types Module name m

known_name : (types : List TypeDeclaration) (kind : TypeKind) (name : List ℕ) → MayExtend kind name types → (t.is_built_in name || t.is_type_named name types) ≡ true
known_name types Simple name m = or_second (t.is_built_in name) _ (named_found types Simple name m)
known_name types Module name m = or_second (t.is_built_in name) _ (compound_found types name m)
known_name types Network name m = or_second (t.is_built_in name) _ (compound_found types name m)
known_name types Channel name (inl built_in) = or_first (t.is_built_in name) _ built_in
known_name types Channel name (inr m) = or_second (t.is_built_in name) _ (named_found types Channel name m)
known_name types ModuleInterface name m = absurd m
known_name types ChannelInterface name m = absurd m

known_base : (types : List TypeDeclaration) (kind : TypeKind) (base : Option (List ℕ)) → ((name : List ℕ) → base ≡ Some name → MayExtend kind name types) → i.extends_unknown types base ≡ false
known_base types kind None h = refl
known_base types kind (Some name) h = false_not _ (known_name types kind name (h name refl))

abbrev AreApart : List TypeDeclaration → Type 0
AreApart types = (a b : TypeDeclaration) → StandsBefore a b types → a.name ≢ b.name

compound_base : (types : List TypeDeclaration) (kind : TypeKind) (name : List ℕ) → AreApart types → ((k : TypeKind) → i.can_extend kind k ≡ i.is_compound_kind k) → IsCompound types name → i.is_base kind (t.type_named name types) ≡ true
compound_base types kind name apart one (inl m) = ap (i.is_base kind) (named_is types Network name apart m) ∙ one m.0.kind ∙ ap i.is_compound_kind m.3
compound_base types kind name apart one (inr m) = ap (i.is_base kind) (named_is types Module name apart m) ∙ one m.0.kind ∙ ap i.is_compound_kind m.3

fitting : (types : List TypeDeclaration) (kind : TypeKind) (name : List ℕ) → AreApart types → MayExtend kind name types → (i.is_channel_of kind name || i.is_base kind (t.type_named name types)) ≡ true
fitting types Simple name apart m = ap (i.is_base Simple) (named_is types Simple name apart m) ∙ ap t.is_simple_kind m.3
fitting types Module name apart m = compound_base types Module name apart (λ k. refl) m
fitting types Network name apart m = compound_base types Network name apart (λ k. refl) m
fitting types Channel name apart (inl built_in) = or_first (t.is_built_in name) _ built_in
fitting types Channel name apart (inr m) = or_second (t.is_built_in name) _ (ap (i.is_base Channel) (named_is types Channel name apart m) ∙ ap t.is_channel_kind m.3)
fitting types ModuleInterface name apart m = absurd m
fitting types ChannelInterface name apart m = absurd m

fitting_base : (types : List TypeDeclaration) (kind : TypeKind) (base : Option (List ℕ)) → AreApart types → ((name : List ℕ) → base ≡ Some name → MayExtend kind name types) → i.extends_other types kind base ≡ false
fitting_base types kind None apart h = refl
fitting_base types kind (Some name) apart h = false_not _ (fitting types kind name apart (h name refl))

-- ---- interfaces

abbrev IsInterfaceOf : TypeKind → List ℕ → List TypeDeclaration → Type 0
IsInterfaceOf kind name types = (x : TypeDeclaration) × IsAmong x types × (x.name ≡ name) × (f.can_keep kind x.kind ≡ true)

known_interfaces : (types : List TypeDeclaration) (kind : TypeKind) (names : List (List ℕ)) → ((name : List ℕ) → IsAmong name names → IsInterfaceOf kind name types) → f.names_no_type types names ≡ false
known_interfaces types kind names h = any_made (λ n. not (t.is_built_in n || t.is_type_named n types)) names (λ n is. let x = h n is in false_not _ (or_second (t.is_built_in n) _ (any_is (λ u. bytes_eq u.name n) types x.0 x.1 (names_same x.0.name n x.2))))

fitting_interfaces : (types : List TypeDeclaration) (kind : TypeKind) (names : List (List ℕ)) → AreApart types → ((name : List ℕ) → IsAmong name names → IsInterfaceOf kind name types) → f.keeps_other types kind names ≡ false
fitting_interfaces types kind names apart h = any_made (λ n. not (f.is_interface_for kind (t.type_named n types))) names (λ n is. false_not _ (one n (h n is)))
  where
    one : (n : List ℕ) → IsInterfaceOf kind n types → f.is_interface_for kind (t.type_named n types) ≡ true
    one n x = ap (λ (m : List ℕ). f.is_interface_for kind (t.type_named m types)) (sym x.2) ∙ ap (f.is_interface_for kind) (type_is types x.0 apart x.1) ∙ x.3

no_circle : (types : List TypeDeclaration) → (ExtendsItself types → ⊥) → i.has_circle types ≡ false
no_circle types none = by (i.has_circle types) refl
  where
    by : (b : Bool) → i.has_circle types ≡ b → b ≡ false
    by true e = absurd (none (circle_is_one types e))
    by false e = refl

inner_network : (a : TypeDeclaration) → (a.kind ≡ Network → t.is_inner_name a.name ≡ false) → t.is_inner_network a ≡ false
inner_network a outer = of_kind a.kind refl
  where
    of_kind : (k : TypeKind) → a.kind ≡ k → (t.is_network_kind k && t.is_inner_name a.name) ≡ false
    of_kind Simple e = refl
    of_kind Module e = refl
    of_kind Network e = outer e
    of_kind Channel e = refl
    of_kind ModuleInterface e = refl
    of_kind ChannelInterface e = refl

-- ---- channels of connections

name_known : (types : List TypeDeclaration) (n : Option (List ℕ)) (block : List ℕ) (lines : List SectionLine) → IsChannelNamed (i.flat_types types) (named_or n block) lines → k.has_unknown_name types n ≡ false
name_known types None block lines m = refl
name_known types (Some name) block lines (inl built_in) = false_not _ (or_first (t.is_built_in name) _ built_in.0)
name_known types (Some name) block lines (inr m) = false_not _ (or_second (t.is_built_in name) _ (sym (named_flat types name types) ∙ any_is (λ u. bytes_eq u.name name) (i.flat_types types) m.0 m.1 (names_same m.0.name name m.2)))

channel_known : (types : List TypeDeclaration) (o : Option channel.Channel) → ((c : channel.Channel) → o ≡ Some c → HasChannel (i.flat_types types) c) → k.names_no_channel types o ≡ false
channel_known types None h = refl
channel_known types (Some c) h = let found = h c refl in name_known types c.type_name (k.channel_of_block c.lines) found.0 found.1

channels_known : (types : List TypeDeclaration) → IsWellFormed (i.flat_types types) → k.has_unknown_channels types ≡ false
channels_known types w = any_made (λ a. k.has_unknown_channel types a.connections.items) types (λ a is. any_made (λ x. list_any (λ l. k.is_channel_unknown types l) (k.connections_of x)) a.connections.items (λ x in-a. any_made (λ l. k.is_channel_unknown types l) (k.connections_of x) (λ l in-x. channel_known types l.connection.channel (w.channels (i.flat_type types a) (among_flat types a types is) x (item_has types a is x in-a) l in-x))))

-- types that keep the rules have no fault
rules_kept : (types : List TypeDeclaration) → KeepRules types → fault_of types ≡ None
rules_kept types w =
    let duplicate : t.has_duplicate types ≡ false = sym (duplicate_flat types types) ∙ no_duplicate (i.flat_types types) w.flat in
    let unknown : t.has_unknown types ≡ false = unknown_flat types (no_unknown (i.flat_types types) w.flat) in
    let bases : i.has_unknown_base types ≡ false = any_made (λ a. i.extends_unknown types a.base) types (λ a is. known_base types a.kind a.base (w.bases a is)) in
    let interfaces : f.has_unknown_interface types ≡ false = any_made (λ a. f.names_no_type types a.interfaces) types (λ a is. known_interfaces types a.kind a.interfaces (w.interfaces a is)) in
    let channels : k.has_unknown_channels types ≡ false = channels_known types w.flat in
    let outer : t.has_inner_network types ≡ false = any_made t.is_inner_network types (λ a is. inner_network a (w.networks a is)) in
    let circle : i.has_circle types ≡ false = no_circle types w.roots in
    let kept : f.has_other_interface types ≡ false = any_made (λ a. f.keeps_other types a.kind a.interfaces) types (λ a is. fitting_interfaces types a.kind a.interfaces (types_apart types duplicate) (w.interfaces a is)) in
    let whole : f.has_broken (i.flat_types types) ≡ false = kept_made (i.flat_types types) w.flat.interfaces in
    let others : i.has_other_base types ≡ false = any_made (λ a. i.extends_other types a.kind a.base) types (λ a is. fitting_base types a.kind a.base (types_apart types duplicate) (w.bases a is)) in
    let clash : k.has_clash (i.flat_types types) ≡ false = no_clash (i.flat_types types) w.flat in
    rw (duplicate, unknown, bases, interfaces, channels, circle, outer, others, kept, clash, whole) refl

-- ---- types whose names and bases have no fault: what is left is that of their flat types

no_base_fault : (fault : Option TypeFault) (rest : Option TypeFault) → fault ≡ None → or_else fault rest ≡ rest
no_base_fault None rest e = refl
no_base_fault (Some fault) rest e = absurd cc

flat_place : (types : List TypeDeclaration) (fault : TypeFault) (p : FaultPlace) → place_from (other_in types) 0 types ≡ None → IsFlatPlace (i.flat_types types) fault p → IsPlace types fault p
flat_place types DuplicateType p none is = absurd is
flat_place types UnknownType p none is = absurd is
flat_place types InheritanceCircle p none is = absurd is
flat_place types KindClash p none is = subst (λ o. IsClashPlace types o p) (sym none) is
flat_place types Interface p none is = is

pub built_flat : (types : List TypeDeclaration) (r : Result (List TypeDeclaration) BuildError) → base_fault types ≡ None → place_from (other_in types) 0 types ≡ None → AreFaultless (i.flat_types types) r → Builds types r
built_flat types (Ok table) e none h = (h.0, no_base_fault (base_fault types) (flat_fault (i.flat_types types)) e ∙ h.1)
built_flat types (Err (NoMemory m)) e none h = tt
built_flat types (Err (Fault fault p)) e none h = (no_base_fault (base_fault types) (flat_fault (i.flat_types types)) e ∙ h.0, flat_place types fault p none h.1)

-- ---- answers

some_none : {X : Type 0} (x : X) (o : Option X) → o ≡ Some x → o ≡ None → ⊥
some_none x o e f = absurd cc

-- what is built keeps the rules of types
pub rules_by : (types : List TypeDeclaration) (r : Result (List TypeDeclaration) BuildError) → Builds types r → IfOk r IsWellFormed
rules_by types (Ok table) b = subst IsWellFormed (sym b.0) (flat_rules types b.1)
rules_by types (Err e) b = tt

-- types that keep the rules are built
pub complete_by : (types : List TypeDeclaration) (r : Result (List TypeDeclaration) BuildError) → Builds types r → KeepRules types → AnswersTable (i.flat_types types) r
complete_by types (Ok table) b w = b.0
complete_by types (Err (NoMemory _)) b w = tt
complete_by types (Err (Fault why _)) b w = some_none why _ b.0 (rules_kept types w)

-- types with flat ones in their places have names of their own
pub changed_apart : (given types : List TypeDeclaration) (changed : List (Option TypeDeclaration)) (flat : List TypeDeclaration) → given ≡ types → AreUnfaulted given changed → flat ≡ with_changed types changed → t.has_duplicate flat ≡ false
changed_apart given types changed flat same are is =
    let mine : AreUnfaulted types changed = subst (λ (ts : List TypeDeclaration). AreUnfaulted ts changed) same are in
    ap t.has_duplicate (is ∙ mine.flat.flat) ∙ duplicate_flat types types ∙ mine.apart
