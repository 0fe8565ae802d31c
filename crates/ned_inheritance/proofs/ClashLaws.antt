-- What clashes is told exactly where a type has a clash, and the place of the first is that of the first type that has one.
use Rattle.std.proofs.Common.{◌≡◌, ℕ, suc, Bool, false, not, ◌||◌, List, [], ◌∷◌, Option, Some, None, refl, sym, ap, ◌∙◌, if◌then◌else◌}
use Rattle.std.specs.Prelude.{is_some}
use Rattle.std.specs.List.{list_any}
use Rattle.std.specs.Option.{option_map}
use Rattle.ned_trees.specs.declared.connections.Channel.{Channel}
use Rattle.ned_trees.specs.declared.connections.ConnectionItem.{ConnectionItem}
use Rattle.ned_trees.specs.declared.declarations.SectionLine.{SectionLine}
use Rattle.ned_trees.specs.declared.declarations.Submodule.{Submodule}
use Rattle.ned_trees.specs.declared.declarations.TypeDeclaration.{TypeDeclaration}
use Rattle.ned_types.specs.Clashes.{block_clashes, channel_clashes, channel_lines, channel_name, clashes, connections_clash, connections_of, has_clash, line_clashes}
use Rattle.ned_types.specs.Flat.{or_else}
use Rattle.ned_types.specs.Types.{bodies_clash, bodies_declare, body_clashes, clashes_with, declares_gates, gives_undeclared, has_other_kind, has_unfit, has_unfit_body, is_declared_again, is_gate_declaration, is_refixed, is_submodule_suited, is_undeclared, is_unfit, redeclares, redeclares_gate, repeats_submodule, section_clashes, sets_fixed_again, submodules_clash, type_name, type_named}
use Rattle.ned_inheritance.specs.declared.places.Member.{Member}
use Rattle.ned_inheritance.specs.declared.places.Member.TheVariants as member
use Rattle.ned_inheritance.specs.declared.places.FaultPlace.{FaultPlace}
use Rattle.ned_inheritance.specs.declared.table.TypeFault.TheVariants as fault
use Rattle.ned_inheritance.specs.Building.{TellsFlat}
use Rattle.ned_inheritance.specs.Interfaces.{has_broken}
use Rattle.ned_inheritance.specs.Places.{block_clash_in, body_clash_in, body_gate, channel_clash_in, clash_in, clash_number, connection_clash_in, first_again, first_from, first_told, is_declared_twice, is_name_before, item_clash_in, line_clash_in, misdeclared_in, place_from, placed, section_clash_in, submodule_clash_in, unfit_body, unfit_over}
use Rattle.ned_inheritance.proofs.AgainLaws.{declared_told, gate_told, refixed_told, submodule_told}
use Rattle.ned_inheritance.proofs.PlaceLaws.{else_told, flat_of, map_told, picked}
use Rattle.ned_inheritance.proofs.Repeats.{or_joined}

-- ---- what is told of one of several

mapped : (f : ℕ → Member) (o : Option ℕ) (b : Bool) → is_some o ≡ b → is_some (option_map f o) ≡ b
mapped f o b e = map_told f o ∙ e

either : {X : Type 0} (o p : Option X) (b c : Bool) → is_some o ≡ b → is_some p ≡ c → is_some (or_else o p) ≡ (b || c)
either o p b c e f = else_told o p ∙ ap (λ t. t || is_some p) e ∙ ap (λ t. b || t) f

some_told : {X : Type 0} (tells : ℕ → X → Option Member) (clash : X → Bool) → ((n : ℕ) (x : X) → is_some (tells n x) ≡ clash x) → (n : ℕ) (xs : List X) → is_some (first_told tells n xs) ≡ list_any clash xs
some_told tells clash one n [] = refl
some_told tells clash one n (x ∷ xs) = either (tells n x) (first_told tells (suc n) xs) (clash x) (list_any clash xs) (one n x) (some_told tells clash one (suc n) xs)

-- ---- sections and bodies

section_told : (lines : List SectionLine) → is_some (section_clash_in lines) ≡ section_clashes lines
section_told lines =
    let again = mapped member.DeclaredAgain (first_again is_declared_twice [] 0 lines) (redeclares lines) (declared_told lines) in
    let undeclared = mapped member.Undeclared (first_from (λ l. is_undeclared lines l) 0 lines) (gives_undeclared lines) (picked (λ l. is_undeclared lines l) 0 lines) in
    let given = mapped member.GivenAgain (first_again is_refixed [] 0 lines) (sets_fixed_again lines) (refixed_told lines) in
    either (misdeclared_in lines) (option_map member.GivenAgain (first_again is_refixed [] 0 lines)) (redeclares lines || gives_undeclared lines) (sets_fixed_again lines)
    (either (option_map member.DeclaredAgain (first_again is_declared_twice [] 0 lines)) (option_map member.Undeclared (first_from (λ l. is_undeclared lines l) 0 lines)) (redeclares lines) (gives_undeclared lines) again undeclared) given
    ∙ or_joined (redeclares lines) (gives_undeclared lines) (sets_fixed_again lines)

body_told : (unfit again : ℕ → Member) (lines body : List SectionLine) → is_some (body_clash_in unfit again lines body) ≡ body_clashes lines body
body_told unfit again lines body =
    either (option_map unfit (first_from (λ l. is_unfit lines l) 0 body)) (option_map again (first_again is_refixed [] 0 body)) (has_unfit lines body) (sets_fixed_again body)
    (mapped unfit (first_from (λ l. is_unfit lines l) 0 body) (has_unfit lines body) (picked (λ l. is_unfit lines l) 0 body))
    (mapped again (first_again is_refixed [] 0 body) (sets_fixed_again body) (refixed_told body))

-- ---- submodules

over_told : (n : ℕ) (body : List SectionLine) (o : Option TypeDeclaration) → is_some (unfit_over n body o) ≡ clashes_with body o
over_told n body None = refl
over_told n body (Some t) = body_told (member.Unfit n) (member.UnfitAgain n) t.lines body

gate_of : (n : ℕ) (s : Submodule) → is_some (body_gate n s) ≡ declares_gates s
gate_of n s = mapped (member.BodyGate n) (first_from is_gate_declaration 0 s.body.gates) (declares_gates s) (picked is_gate_declaration 0 s.body.gates)

submodules_told : (types : List TypeDeclaration) (ss : List Submodule) → is_some (submodule_clash_in types ss) ≡ submodules_clash types ss
submodules_told types ss =
    let again = option_map member.SubmoduleAgain (first_again is_name_before [] 0 ss) in
    let other = option_map member.Submodule (first_from (λ s. not (is_submodule_suited types s)) 0 ss) in
    let unfit = first_told (unfit_body types) 0 ss in
    let gates = first_told body_gate 0 ss in
    either again (or_else other (or_else unfit gates)) (repeats_submodule ss) (has_other_kind types ss || (bodies_clash types ss || bodies_declare ss))
    (mapped member.SubmoduleAgain (first_again is_name_before [] 0 ss) (repeats_submodule ss) (submodule_told ss))
    (either other (or_else unfit gates) (has_other_kind types ss) (bodies_clash types ss || bodies_declare ss)
    (mapped member.Submodule (first_from (λ s. not (is_submodule_suited types s)) 0 ss) (has_other_kind types ss) (picked (λ s. not (is_submodule_suited types s)) 0 ss))
    (either unfit gates (bodies_clash types ss) (bodies_declare ss)
    (some_told (unfit_body types) (λ s. has_unfit_body types s) (λ n s. over_told n s.body.lines (type_named (type_name s) types)) 0 ss)
    (some_told body_gate declares_gates gate_of 0 ss)))

-- ---- connections

block_told : (item n : ℕ) (block : List SectionLine) (o : Option (List SectionLine)) → is_some (block_clash_in item n block o) ≡ block_clashes block o
block_told item n block None = refl
block_told item n block (Some lines) = body_told (member.UnfitBlock item n) (member.UnfitBlockAgain item n) lines block

channel_told : (types : List TypeDeclaration) (item n : ℕ) (o : Option Channel) → is_some (channel_clash_in types item n o) ≡ channel_clashes types o
channel_told types item n None = refl
channel_told types item n (Some c) = block_told item n c.lines (channel_lines types (channel_name c))

item_told : (types : List TypeDeclaration) (n : ℕ) (i : ConnectionItem) → is_some (item_clash_in types n i) ≡ list_any (λ l. line_clashes types l) (connections_of i)
item_told types n i = some_told (line_clash_in types n) (λ l. line_clashes types l) (λ m l. channel_told types n m l.connection.channel) 0 (connections_of i)

connections_told : (types : List TypeDeclaration) (items : List ConnectionItem) → is_some (connection_clash_in types items) ≡ connections_clash types items
connections_told types items = some_told (item_clash_in types) (λ i. list_any (λ l. line_clashes types l) (connections_of i)) (item_told types) 0 items

-- ---- types

-- something of a type is told exactly where it has a clash
pub clash_one : (types : List TypeDeclaration) (t : TypeDeclaration) → is_some (clash_in types t) ≡ clashes types t
clash_one types t =
    let gates = option_map member.GateAgain (first_again is_declared_again [] 0 t.gates) in
    let submodules = submodule_clash_in types t.submodules in
    let connections = connection_clash_in types t.connections.items in
    let later = submodules_clash types t.submodules || connections_clash types t.connections.items in
    either (section_clash_in t.lines) (or_else gates (or_else submodules connections)) (section_clashes t.lines) (redeclares_gate t.gates || later) (section_told t.lines)
    (either gates (or_else submodules connections) (redeclares_gate t.gates) later (mapped member.GateAgain (first_again is_declared_again [] 0 t.gates) (redeclares_gate t.gates) (gate_told t.gates))
    (either submodules connections (submodules_clash types t.submodules) (connections_clash types t.connections.items) (submodules_told types t.submodules) (connections_told types t.connections.items)))

-- and its number is that of the first that has one
pub number_told : (types : List TypeDeclaration) (n : ℕ) (ts : List TypeDeclaration) → option_map (λ (p : FaultPlace). p.number) (place_from (clash_in types) n ts) ≡ first_from (λ t. clashes types t) n ts
number_told types n [] = refl
number_told types n (t ∷ ts) = by (clash_in types t) (clash_one types t) (number_told types (suc n) ts)
  where
    by : (m : Option Member) → is_some m ≡ clashes types t → option_map (λ (p : FaultPlace). p.number) (place_from (clash_in types) (suc n) ts) ≡ first_from (λ u. clashes types u) (suc n) ts
        → option_map (λ (p : FaultPlace). p.number) (or_else (placed n m) (place_from (clash_in types) (suc n) ts)) ≡ (if clashes types t then Some n else first_from (λ u. clashes types u) (suc n) ts)
    by None e told = told ∙ ap (λ b. if b then Some n else first_from (λ u. clashes types u) (suc n) ts) e
    by (Some m) e told = ap (λ b. if b then Some n else first_from (λ u. clashes types u) (suc n) ts) e

-- ---- the faults of flat types

-- a number is told exactly where one clashes
pub clash_told : (types : List TypeDeclaration) → is_some (clash_number types) ≡ has_clash types
clash_told types = picked (λ t. clashes types t) 0 types

-- what is answered of a clash, where these are the types by their names
pub clash_answered : (named types : List TypeDeclaration) (place : Option FaultPlace) (p : FaultPlace) → named ≡ types → place ≡ place_from (clash_in named) 0 types → place ≡ Some p → TellsFlat types (Some (fault.KindClash, p))
clash_answered named types place p names told is =
    let found : place_from (clash_in types) 0 types ≡ Some p = ap (λ (ns : List TypeDeclaration). place_from (clash_in ns) 0 types) (sym names) ∙ sym told ∙ is in
    let number : clash_number types ≡ Some p.number = sym (number_told types 0 types) ∙ ap (option_map (λ (q : FaultPlace). q.number)) found in (
      ap (λ b. flat_of b (has_broken types)) (sym (clash_told types) ∙ ap is_some number),
      (number, found),
    )

pub no_clash_answered : (named types : List TypeDeclaration) (place : Option FaultPlace) → named ≡ types → place ≡ place_from (clash_in named) 0 types → place ≡ None → has_clash types ≡ false
no_clash_answered named types place names told is =
    let none : place_from (clash_in types) 0 types ≡ None = ap (λ (ns : List TypeDeclaration). place_from (clash_in ns) 0 types) (sym names) ∙ sym told ∙ is in
    sym (clash_told types)
    ∙ ap is_some (sym (number_told types 0 types) ∙ ap (option_map (λ (q : FaultPlace). q.number)) none)
