-- Where types break a rule: the first place, type by type, and what of it.
use Rattle.std.specs.Prelude.{◌≡◌, ◌++◌, ℕ, suc, Bool, not, ◌||◌, ◌&&◌, List, [], ◌∷◌, Option, Some}
use Rattle.std.specs.Prelude.{None, if◌then◌else◌}
use Rattle.std.specs.Option.{option_map}
use Rattle.ned_trees.specs.declared.connections.Channel.{Channel as ChannelPart}
use Rattle.ned_trees.specs.declared.connections.ConnectionItem.{ConnectionItem}
use Rattle.ned_trees.specs.declared.connections.ConnectionLine.{ConnectionLine}
use Rattle.ned_trees.specs.declared.declarations.SectionLine.{SectionLine}
use Rattle.ned_trees.specs.declared.declarations.Submodule.{Submodule as SubmodulePart}
use Rattle.ned_trees.specs.declared.declarations.TypeDeclaration.{TypeDeclaration}
use Rattle.ned_types.specs.Clashes.{channel_lines, channel_name, clashes, connections_of}
use Rattle.ned_types.specs.Clashes.{is_channel_unknown}
use Rattle.ned_types.specs.Flat.{or_else}
use Rattle.ned_types.specs.Types.{is_built_in, is_inner_network, is_submodule_known, is_type_named}
use Rattle.ned_types.specs.Types.{is_declaration, is_declared, is_declared_again, is_gate_declaration}
use Rattle.ned_types.specs.Types.{is_refixed, is_submodule_named, is_submodule_suited, is_undeclared}
use Rattle.ned_types.specs.Types.{is_unfit, name_in, type_name, type_named}
use Rattle.ned_inheritance.specs.declared.places.Member.{Member}
use Rattle.ned_inheritance.specs.declared.places.Member.TheVariants.{Whole, Base, Interface}
use Rattle.ned_inheritance.specs.declared.places.Member.TheVariants.{Submodule, Channel}
use Rattle.ned_inheritance.specs.declared.places.Member.TheVariants.{LacksParameter, LacksGate}
use Rattle.ned_inheritance.specs.declared.places.Member.TheVariants.{DeclaredAgain, Undeclared}
use Rattle.ned_inheritance.specs.declared.places.Member.TheVariants.{GivenAgain, GateAgain}
use Rattle.ned_inheritance.specs.declared.places.Member.TheVariants.{SubmoduleAgain, Unfit}
use Rattle.ned_inheritance.specs.declared.places.Member.TheVariants.{UnfitAgain, BodyGate}
use Rattle.ned_inheritance.specs.declared.places.Member.TheVariants.{OtherChannel, UnfitBlock}
use Rattle.ned_inheritance.specs.declared.places.Member.TheVariants.{UnfitBlockAgain}
use Rattle.ned_inheritance.specs.declared.places.FaultPlace.{FaultPlace}
use Rattle.ned_inheritance.specs.Inheritance.{extends_other, extends_unknown, flat_types}
use Rattle.ned_inheritance.specs.Interfaces.{is_interface_for, lacks_gate, lacks_parameter}

-- the number of the first of these that is picked, where they are counted on from a number
abbrev pub first_from : {X : Type 0} → (X → Bool) → ℕ → List X → Option ℕ
first_from picks n [] = None
first_from picks n (x ∷ xs) = if picks x then Some n else first_from picks (suc n) xs

-- the place of that member of the type of that number
abbrev pub placed : ℕ → Option Member → Option FaultPlace
placed n None = None
placed n (Some m) = Some (record { number = n; member = m })

-- the first place where a type breaks a rule, which tells what of it does; the types are counted on
-- from a number
abbrev pub place_from : (TypeDeclaration → Option Member) → ℕ → List TypeDeclaration
    → Option FaultPlace
place_from broken n [] = None
place_from broken n (t ∷ ts) = or_else (placed n (broken t)) (place_from broken (suc n) ts)

-- whether it is the name of a type or of a built-in channel
abbrev pub is_known : List ℕ → List TypeDeclaration → Bool
is_known name types = is_built_in name || is_type_named name types

-- the first connection whose channel's name is unknown, of the item of that number
abbrev pub unknown_channel_of : List TypeDeclaration → ℕ → ConnectionItem → Option Member
unknown_channel_of types n i =
    option_map (Channel n) (first_from (λ l. is_channel_unknown types l) 0 (connections_of i))

-- the same of items that are counted on from a number
abbrev pub unknown_channel_from : List TypeDeclaration → ℕ → List ConnectionItem → Option Member
unknown_channel_from types n [] = None
unknown_channel_from types n (i ∷ is) =
    or_else (unknown_channel_of types n i) (unknown_channel_from types (suc n) is)

-- A NAME THAT IS UNKNOWN: what of a type names what is neither a type nor a built-in channel
abbrev pub unknown_in : List TypeDeclaration → TypeDeclaration → Option Member
unknown_in types t =
    if extends_unknown types t.base then Some Base
    else or_else (option_map Interface (first_from (λ n. not (is_known n types)) 0 t.interfaces))
    (or_else (option_map Submodule
    (first_from (λ s. not (is_submodule_known types s)) 0 t.submodules))
    (unknown_channel_from types 0 t.connections.items))

-- ANOTHER KIND: what of a type is of another kind than it should be, or that it is a network within
-- another
abbrev pub other_in : List TypeDeclaration → TypeDeclaration → Option Member
other_in types t =
    if is_inner_network t then Some Whole
    else (if extends_other types t.kind t.base then Some Base
    else option_map Interface
    (first_from (λ n. not (is_interface_for t.kind (type_named n types))) 0 t.interfaces))

-- A MEMBER THAT IS LACKED: the first of an interface that a type lacks, where that is its interface
-- of that number
abbrev pub lacked_of : TypeDeclaration → ℕ → TypeDeclaration → Option Member
lacked_of t n i =
    or_else (option_map (LacksParameter n) (first_from (λ l. lacks_parameter t.lines l) 0 i.lines))
    (option_map (LacksGate n) (first_from (λ g. lacks_gate t.gates g) 0 i.gates))

abbrev pub lacked_of_any : TypeDeclaration → ℕ → Option TypeDeclaration → Option Member
lacked_of_any t n None = None
lacked_of_any t n (Some i) = lacked_of t n i

-- the same of the interfaces of these names, counted on from a number
abbrev pub lacked_from : List TypeDeclaration → TypeDeclaration → ℕ → List (List ℕ) → Option Member
lacked_from types t n [] = None
lacked_from types t n (name ∷ names) =
    or_else (lacked_of_any t n (type_named name types)) (lacked_from types t (suc n) names)

-- what of a type lacks a member of one of its interfaces
abbrev pub lacked_in : List TypeDeclaration → TypeDeclaration → Option Member
lacked_in types t = lacked_from types t 0 t.interfaces

-- A NAME THAT IS TAKEN: the number of the first type that has the name of a built-in channel or of
-- a type before it, where these were before and the others are counted on from a number
abbrev pub duplicate_from : List TypeDeclaration → ℕ → List TypeDeclaration → Option ℕ
duplicate_from seen n [] = None
duplicate_from seen n (t ∷ ts) = if is_built_in t.name || is_type_named t.name seen then Some n
    else duplicate_from (seen ++ t ∷ []) (suc n) ts

-- A CLASH: the number of the first of these flat types that has one
abbrev pub clash_number : List TypeDeclaration → Option ℕ
clash_number types = first_from (λ t. clashes types t) 0 types

-- the number of the first that repeats one before it, where these were before and the others are
-- counted on from a number
abbrev pub first_again : {X : Type 0} → (List X → X → Bool) → List X → ℕ → List X → Option ℕ
first_again repeats before n [] = None
first_again repeats before n (x ∷ xs) =
    if repeats before x then Some n else first_again repeats (before ++ x ∷ []) (suc n) xs

-- the first member that is told of one of these, which are counted on from a number
abbrev pub first_told : {X : Type 0} → (ℕ → X → Option Member) → ℕ → List X → Option Member
first_told tells n [] = None
first_told tells n (x ∷ xs) = or_else (tells n x) (first_told tells (suc n) xs)

-- whether the line declares a parameter that one of these declares
abbrev pub is_declared_twice : List SectionLine → SectionLine → Bool
is_declared_twice before l = is_declaration l && is_declared (name_in l) before

-- the first line that declares a parameter which one before it declares, or else the first that
-- gives a value to one that no line declares
abbrev pub misdeclared_in : List SectionLine → Option Member
misdeclared_in lines =
    or_else (option_map DeclaredAgain (first_again is_declared_twice [] 0 lines))
    (option_map Undeclared (first_from (λ l. is_undeclared lines l) 0 lines))

-- what of a parameter section clashes: such a line, or else the first that gives a value to a
-- parameter which a line before it gives a fixed one
abbrev pub section_clash_in : List SectionLine → Option Member
section_clash_in lines = or_else (misdeclared_in lines)
    (option_map GivenAgain (first_again is_refixed [] 0 lines))

-- what of a body, or of the block of a channel, clashes with these lines of its type: the first line
-- that can't stand over them, or else the first that gives a value to a parameter which a line of
-- the body before it gives a fixed one
abbrev pub body_clash_in : (ℕ → Member) → (ℕ → Member) → List SectionLine → List SectionLine
    → Option Member
body_clash_in unfit again lines body =
    or_else (option_map unfit (first_from (λ l. is_unfit lines l) 0 body))
    (option_map again (first_again is_refixed [] 0 body))

-- the same of the body of the submodule of that number, over the lines of its type
abbrev pub unfit_over : ℕ → List SectionLine → Option TypeDeclaration → Option Member
unfit_over n body None = None
unfit_over n body (Some t) = body_clash_in (Unfit n) (UnfitAgain n) t.lines body

abbrev pub unfit_body : List TypeDeclaration → ℕ → SubmodulePart → Option Member
unfit_body types n s = unfit_over n s.body.lines (type_named (type_name s) types)

-- the first line of gates in its body that declares one
abbrev pub body_gate : ℕ → SubmodulePart → Option Member
body_gate n s = option_map (BodyGate n) (first_from is_gate_declaration 0 s.body.gates)

-- whether one of these has the submodule's name
abbrev pub is_name_before : List SubmodulePart → SubmodulePart → Bool
is_name_before before s = is_submodule_named s.name before

-- what of submodules clashes: the first that has the name of one before it, or else the first whose
-- type isn't one of modules, or else the first whose body can't stand over the lines of its type, or
-- else the first whose body declares a gate
abbrev pub submodule_clash_in : List TypeDeclaration → List SubmodulePart → Option Member
submodule_clash_in types submodules =
    or_else (option_map SubmoduleAgain (first_again is_name_before [] 0 submodules))
    (or_else (option_map Submodule
    (first_from (λ s. not (is_submodule_suited types s)) 0 submodules))
    (or_else (first_told (unfit_body types) 0 submodules) (first_told body_gate 0 submodules)))

-- what of the connection of that number, of the item of the first, clashes: that what it names is no
-- channel, or a line of the block of its channel
abbrev pub block_clash_in : ℕ → ℕ → List SectionLine → Option (List SectionLine) → Option Member
block_clash_in item n block None = Some (OtherChannel item n)
block_clash_in item n block (Some lines) =
    body_clash_in (UnfitBlock item n) (UnfitBlockAgain item n) lines block

abbrev pub channel_clash_in : List TypeDeclaration → ℕ → ℕ → Option ChannelPart → Option Member
channel_clash_in types item n None = None
channel_clash_in types item n (Some c) =
    block_clash_in item n c.lines (channel_lines types (channel_name c))

abbrev pub line_clash_in : List TypeDeclaration → ℕ → ℕ → ConnectionLine → Option Member
line_clash_in types item n l = channel_clash_in types item n l.connection.channel

-- the same of the first connection of an item that clashes, and of the first item
abbrev pub item_clash_in : List TypeDeclaration → ℕ → ConnectionItem → Option Member
item_clash_in types n i = first_told (line_clash_in types n) 0 (connections_of i)

abbrev pub connection_clash_in : List TypeDeclaration → List ConnectionItem → Option Member
connection_clash_in types items = first_told (item_clash_in types) 0 items

-- WHAT CLASHES: the first member of a flat type that does, those of its parameter section before its
-- gates, these before its submodules, and these before its connections; a gate does that a line
-- before its own declares
abbrev pub clash_in : List TypeDeclaration → TypeDeclaration → Option Member
clash_in types t =
    or_else (section_clash_in t.lines)
    (or_else (option_map GateAgain (first_again is_declared_again [] 0 t.gates))
    (or_else (submodule_clash_in types t.submodules)
    (connection_clash_in types t.connections.items)))

-- the place of a clash in flat types: the first type that has one, and the first member of it that
-- clashes
abbrev pub IsFirstClash : List TypeDeclaration → FaultPlace → Type 0
IsFirstClash types p = (clash_number types ≡ Some p.number)
    × (place_from (clash_in types) 0 types ≡ Some p)

-- the place of a clash is the first of names and kinds; where there is none it is that in the flat
-- types
abbrev pub IsClashPlace : List TypeDeclaration → Option FaultPlace → FaultPlace → Type 0
IsClashPlace types (Some first) p = first ≡ p
IsClashPlace types None p = IsFirstClash (flat_types types) p
