-- The standard tokens of declarations say them.
use Rattle.std.proofs.Common.{◌≡◌, ℕ, zero, suc, map, List, [], ◌∷◌, ◌++◌, Option, Some, None, refl, sym, ap, subst, append-nil}
use Rattle.ned_tokens.specs.declared.token.Keyword.{Keyword}
use Rattle.ned_tokens.specs.declared.token.Keyword.TheVariants as k
use Rattle.ned_tokens.specs.declared.token.Mark.{Mark}
use Rattle.ned_tokens.specs.declared.token.Mark.TheVariants as m
use Rattle.ned_tokens.specs.declared.token.Token.{Token}
use Rattle.ned_tokens.specs.declared.token.Token.TheVariants as token
use Rattle.ned_tokens.specs.Rule.{Rule, ◌▷◌, made, many}
use Rattle.ned_trees.specs.declared.expressions.Expression.{Expression}
use Rattle.ned_expressions.specs.Spelling.{expression_tokens}
use Rattle.ned_trees.specs.declared.declarations.ParameterValue.{ParameterValue}
use Rattle.ned_trees.specs.declared.declarations.ParameterValue.TheVariants as given
use Rattle.ned_trees.specs.declared.declarations.SectionLine.{SectionLine}
use Rattle.ned_trees.specs.declared.declarations.Submodule.{Submodule}
use Rattle.ned_trees.specs.declared.declarations.GateLine.{GateLine}
use Rattle.ned_trees.specs.declared.declarations.TypeKind.{TypeKind}
use Rattle.ned_trees.specs.declared.declarations.TypeKind.TheVariants as kinds
use Rattle.ned_trees.specs.declared.declarations.TypeDeclaration.{TypeDeclaration}
use Rattle.ned_trees.specs.declared.declarations.NestedType.{NestedType, out-NestedType, roll-NestedType, the_lemmas}
use Rattle.ned_trees.specs.declared.declarations.NestedType.TheFolds.{fold_out-NestedType}
use Rattle.ned_trees.specs.declared.declarations.NedFile.{NedFile}
use Rattle.ned_syntax.specs.Grammar.{base_name, optional_base, next_dotted, dotted_list, names_behind, optional_names, head, gated_block, simple, body_of, body_parts, braced_body, no_body, any_body, submodule_body, angle_value, optional_value, angles, interface_name, parametric, submodule_type, optional_condition, submodule_rest, submodule, submodules, lone, inner_types, inside, compound_block, compound_kind, compound, module_type, section_block, channel, interface_kind, interface, channel_or_interface, any_type, type_within, silent_entry, entry, types_in, file, word, mark, name, angle_expression, default_value, dotted, bracketed_expression, optional_brackets, declared, max_blocks, gates, condition, connections}
use Rattle.ned_read_back.specs.Declarations.{listed_tokens, given_tokens, section_tokens, refined_size_tokens, gates_tokens, in_braces, connections_tokens, body_tokens, angle_tokens, submodule_type_tokens, condition_tokens, submodule_tokens, submodules_tokens, base_tokens, next_name_tokens, names_tokens, head_tokens, interface_tokens, types_tokens, inside_tokens, kind_tokens, tokens_at, type_tokens, file_tokens}
use Rattle.ned_read_back.proofs.Spellable.{Each, IfThere, CanBeExpression, CanBeLine, CanBeBodyLine, CanBeGate, CanBeAngle, CanBeAngles, CanBeConnections, HasRoom, CanBeSubmoduleType, CanBeSubmodule, CanBeInterface, CanBeCompound, CanBeParts, CanBeTypes, CanBeFile, CanBeNested}
use Rattle.ned_trees.specs.declared.declarations.SubmoduleType.{SubmoduleType}
use Rattle.ned_trees.specs.declared.declarations.SubmoduleType.TheVariants as types_are
use Rattle.ned_trees.specs.declared.connections.ConnectionSection.{ConnectionSection}
use Rattle.ned_read_back.proofs.Spells.{Spells, one, then, mapped, before, after, this, that, some, nothing, none, more, to, each, a_word, a_mark, a_name, an_expression, any_of, a_section, a_dotted, a_body_section, the_gates, no_semi}
use Rattle.ned_read_back.proofs.SpellsConnections.{a_brackets, a_condition, the_connections}

-- ---- submodules

-- where there is a value between angles
an_angle : (e : Expression) → CanBeAngle e → Spells angle_expression (expression_tokens e) e
an_angle e h = record { is = h.is }

-- the value between angles
an_angle_value : (v : ParameterValue) → CanBeAngles v → Spells angle_value (given_tokens v) v
unfolding angle_value default_value
an_angle_value (given.Fixed e) h = that default_value (mapped (an_angle e h))
an_angle_value (given.Default e) h = this (made given.Fixed angle_expression) (before (a_word k.Default) (before (a_mark m.LeftParen) (after (mapped (an_expression e h)) (a_mark m.RightParen))))

-- the value, where there is one
the_angle_value : (v : Option ParameterValue) → IfThere CanBeAngles v → Spells optional_value (angle_tokens v) v
unfolding optional_value
the_angle_value None h = nothing angle_value
the_angle_value (Some v) h = some (an_angle_value v h)

-- `<..>`
the_angles : (v : Option ParameterValue) → IfThere CanBeAngles v → Spells angles (token.Mark m.Less ∷ (angle_tokens v ++ token.Mark m.Greater ∷ [])) v
unfolding angles
the_angles v h = before (a_mark m.Less) (after (the_angle_value v h) (a_mark m.Greater))

-- an interface after `like`
an_interface_name : (text : List ℕ) → Spells interface_name (token.Word k.Like ∷ token.Name text ∷ []) text
unfolding interface_name
an_interface_name text = before (a_word k.Like) (a_dotted text)

-- the type of a submodule
a_submodule_type : (t : SubmoduleType) → CanBeSubmoduleType t → Spells submodule_type (submodule_type_tokens t) t
unfolding submodule_type parametric
a_submodule_type (types_are.Named text) h = that (made types_are.Like parametric) (mapped (a_dotted text))
a_submodule_type (types_are.Like t) h = this (made types_are.Named dotted) (mapped (mapped (then (the_angles t.given h.0) (an_interface_name t.interface))))

-- a condition, where there is one
the_condition : (c : Option Expression) → IfThere CanBeExpression c → Spells optional_condition (condition_tokens c) c
unfolding optional_condition
the_condition None h = nothing condition
the_condition (Some e) h = some (a_condition e h)

-- the size of a vector, where there is one
the_size : (size : Option Expression) → IfThere CanBeExpression size → Spells optional_brackets (refined_size_tokens size) size
unfolding optional_brackets
the_size None h = nothing bracketed_expression
the_size (Some e) h = some (a_brackets e h)

-- a body in braces
a_braced_body : (ls : List SectionLine) (gs : List GateLine) → Each CanBeBodyLine ls → Each CanBeGate gs → Spells braced_body (in_braces (section_tokens ls ++ gates_tokens gs)) (body_of ls gs)
unfolding braced_body body_parts
a_braced_body ls gs h k = subst (λ (ts : List Token). Spells braced_body ts (body_of ls gs)) (append-nil (in_braces (section_tokens ls ++ gates_tokens gs))) (after (before (a_mark m.Open) (after (mapped (then (a_body_section ls h) (the_gates gs k))) (a_mark m.Close))) no_semi)

-- the body of a submodule
a_submodule_body : (n : ℕ) (ls : List SectionLine) (gs : List GateLine) → Each CanBeBodyLine ls → Each CanBeGate gs → HasRoom n ls gs → Spells (submodule_body n) (body_tokens ls gs) (body_of ls gs)
unfolding submodule_body any_body no_body
a_submodule_body zero [] [] h k room = mapped (a_mark m.Semi)
a_submodule_body zero (line ∷ ls) gs h k room = let no = room.0 in absurd cc
a_submodule_body zero [] (g ∷ gs) h k room = let no = room.1 in absurd cc
a_submodule_body (suc n) [] [] h k room = this braced_body (mapped (a_mark m.Semi))
a_submodule_body (suc n) (line ∷ ls) gs h k room = that no_body (a_braced_body (line ∷ ls) gs h k)
a_submodule_body (suc n) [] (g ∷ gs) h k room = that no_body (a_braced_body [] (g ∷ gs) h k)

-- a submodule
a_submodule : (n : ℕ) (s : Submodule) → CanBeSubmodule n s → Spells (submodule n) (submodule_tokens s) s
unfolding submodule submodule_rest
a_submodule n s h = mapped (then (a_name s.name) (then (the_size s.size h.1) (before (a_mark m.Colon) (then (a_submodule_type s.submodule_type h.2) (then (the_condition s.condition h.3) (a_submodule_body n s.body.lines s.body.gates h.4.0 h.4.1 h.4.2))))))

-- the submodules
the_submodules : (n : ℕ) (ss : List Submodule) → Each (CanBeSubmodule n) ss → Spells (submodules n) (submodules_tokens ss) ss
unfolding submodules
the_submodules n ss h = mapped (some (before (a_word k.Submodules) (before (a_mark m.Colon) (each (submodule n) submodule_tokens (CanBeSubmodule n) (a_submodule n) ss h))))

-- what a type extends
a_base : (base : Option (List ℕ)) → Spells optional_base (base_tokens base) base
unfolding optional_base base_name
a_base None = nothing base_name
a_base (Some name) = some (before (a_word k.Extends) (a_dotted name))

-- a name after a comma
a_next_name : (text : List ℕ) → Spells next_dotted (next_name_tokens text) text
unfolding next_dotted
a_next_name text = before (a_mark m.Comma) (a_dotted text)

-- names after a word, or none
the_names : (w : Keyword) (names : List (List ℕ)) → Spells (optional_names w) (names_tokens w names) names
unfolding optional_names names_behind dotted_list
the_names w [] = mapped (nothing (names_behind w))
the_names w (text ∷ names) = mapped (some (before (a_word w) (mapped (then (a_dotted text) (each next_dotted next_name_tokens (λ x. Unit {0}) (λ x h. a_next_name x) names (any_of names))))))

-- the head of a type
a_head : (text : List ℕ) (base : Option (List ℕ)) (names : List (List ℕ)) → Spells head (token.Name text ∷ (base_tokens base ++ names_tokens k.Like names)) (record { name = text; base = base; interfaces = names })
unfolding head
a_head text base names = mapped (then (a_name text) (then (a_base base) (the_names k.Like names)))

-- ---- gates

-- ---- types of each kind

-- parameters and gates in braces
a_gated_block : (ls : List SectionLine) (gs : List GateLine) → Each CanBeLine ls → Each CanBeGate gs → Spells gated_block (in_braces (section_tokens ls ++ gates_tokens gs)) (ls, gs)
unfolding gated_block
a_gated_block ls gs h k = before (a_mark m.Open) (after (then (a_section ls h) (the_gates gs k)) (a_mark m.Close))

-- each type by its tokens
abbrev Spelled : Rule NestedType → (NestedType → Type 0) → Type 0
Spelled inner P = (t : NestedType) → P t → Spells inner (type_tokens t) t

-- types, one after the other
each_type : (inner : Rule NestedType) (P : NestedType → Type 0) → Spelled inner P → (ts : List NestedType) → Each P ts → Spells (many inner) (listed_tokens (λ us. us) (map type_tokens ts)) ts
each_type inner P a_type [] all = none inner
each_type inner P a_type (t ∷ ts) all = more (a_type t all.0) (each_type inner P a_type ts all.1)

-- the types within a type
the_types : (inner : Rule NestedType) (P : NestedType → Type 0) → Spelled inner P → (ts : List NestedType) → Each P ts → Spells (inner_types inner) (types_tokens (map type_tokens ts)) ts
unfolding inner_types
the_types inner P a_type [] all = mapped (nothing (word k.Types ▷ (mark m.Colon ▷ many inner)))
the_types inner P a_type (t ∷ ts) all = mapped (some (before (a_word k.Types) (before (a_mark m.Colon) (each_type inner P a_type (t ∷ ts) all))))

-- parameters, gates, types, submodules and connections in braces
a_compound_block : (n : ℕ) (inner : Rule NestedType) (P : NestedType → Type 0) → Spelled inner P → (ls : List SectionLine) (gs : List GateLine) (ts : List NestedType) (ss : List Submodule) (cs : ConnectionSection) → Each CanBeLine ls → Each CanBeGate gs → Each P ts → Each (CanBeSubmodule n) ss → CanBeConnections n cs → Spells (compound_block n inner) (in_braces (section_tokens ls ++ (gates_tokens gs ++ (types_tokens (map type_tokens ts) ++ (submodules_tokens ss ++ connections_tokens cs))))) (ls, (gs, (ts, (ss, cs))))
unfolding compound_block inside
a_compound_block n inner P a_type ls gs ts ss cs h k j l c = before (a_mark m.Open) (after (then (a_section ls h) (then (the_gates gs k) (then (the_types inner P a_type ts j) (then (the_submodules n ss l) (the_connections n cs c))))) (a_mark m.Close))

-- parameters in braces
a_section_block : (ls : List SectionLine) → Each CanBeLine ls → Spells section_block (in_braces (section_tokens ls)) ls
unfolding section_block
a_section_block ls h = before (a_mark m.Open) (after (a_section ls h) (a_mark m.Close))

-- a type of these parts
abbrev type_with : TypeKind → List ℕ → Option (List ℕ) → List (List ℕ) → List SectionLine → List GateLine → List Submodule → ConnectionSection → TypeDeclaration
type_with kind text base is ls gs ss cs = record { kind = kind; name = text; base = base; interfaces = is; lines = ls; gates = gs; submodules = ss; connections = cs }

-- a type with these types within it
abbrev nested_with : TypeDeclaration → List NestedType → NestedType
nested_with d ts = roll-NestedType (record { declared = d; types = ts })

-- an interface, by the word of its kind
an_interface : (kind : TypeKind) (w : Keyword) (text : List ℕ) (base : Option (List ℕ)) (is : List (List ℕ)) (ls : List SectionLine) (gs : List GateLine) (ss : List Submodule) (cs : ConnectionSection) → Spells interface_kind (token.Word w ∷ []) kind → CanBeInterface (type_with kind text base is ls gs ss cs) → Spells channel_or_interface (interface_tokens w (type_with kind text base is ls gs ss cs)) (type_with kind text base is ls gs ss cs)
unfolding channel_or_interface interface
an_interface kind w text base is ls gs ss cs word_is h =
    let no_base = sym h.3 in
    let none_below = sym h.4 in
    let none_joined = sym h.5 in
    that channel (to (mapped (then word_is (then (a_name text) (then (the_names k.Extends is) (a_gated_block ls gs h.1 h.2))))) (λ i. type_with kind text (no_base i) is ls gs (none_below i) (none_joined i)))

-- the word of an interface of modules, and that of one of channels
a_module_interface_word : Spells interface_kind (token.Word k.ModuleInterface ∷ []) kinds.ModuleInterface
unfolding interface_kind
a_module_interface_word = one (token.Word k.ModuleInterface) refl

a_channel_interface_word : Spells interface_kind (token.Word k.ChannelInterface ∷ []) kinds.ChannelInterface
unfolding interface_kind
a_channel_interface_word = one (token.Word k.ChannelInterface) refl

-- a simple module
a_simple : (text : List ℕ) (base : Option (List ℕ)) (is : List (List ℕ)) (ls : List SectionLine) (gs : List GateLine) (ss : List Submodule) (cs : ConnectionSection) (n : ℕ) → CanBeParts n kinds.Simple (type_with kinds.Simple text base is ls gs ss cs) → Spells simple (kind_tokens kinds.Simple (type_with kinds.Simple text base is ls gs ss cs) []) (type_with kinds.Simple text base is ls gs ss cs)
unfolding simple
a_simple text base is ls gs ss cs n h =
    let none_below = sym h.4 in
    let none_joined = sym h.5 in
    to (mapped (before (a_word k.Simple) (then (a_head text base is) (a_gated_block ls gs h.2 h.3)))) (λ i. type_with kinds.Simple text base is ls gs (none_below i) (none_joined i))

-- a channel
a_channel : (text : List ℕ) (base : Option (List ℕ)) (is : List (List ℕ)) (ls : List SectionLine) (gs : List GateLine) (ss : List Submodule) (cs : ConnectionSection) (n : ℕ) → CanBeParts n kinds.Channel (type_with kinds.Channel text base is ls gs ss cs) → Spells channel_or_interface (kind_tokens kinds.Channel (type_with kinds.Channel text base is ls gs ss cs) []) (type_with kinds.Channel text base is ls gs ss cs)
unfolding channel_or_interface channel
a_channel text base is ls gs ss cs n h =
    let no_gates = sym h.3 in
    let none_below = sym h.4 in
    let none_joined = sym h.5 in
    this interface (to (mapped (before (a_word k.Channel) (then (a_head text base is) (a_section_block ls h.2)))) (λ i. type_with kinds.Channel text base is ls (no_gates i) (none_below i) (none_joined i)))

-- a type that declares none
alone : {r : Rule TypeDeclaration} {us : List Token} {d : TypeDeclaration} (ts : List NestedType) → ts ≡ [] → Spells r us d → Spells (made lone r) us (nested_with d ts)
alone {d = d} ts e p = to (mapped p) (ap (nested_with d) (sym e))

-- the word of a module, and that of a network
a_module_word : Spells compound_kind (token.Word k.Module ∷ []) kinds.Module
unfolding compound_kind
a_module_word = one (token.Word k.Module) refl

a_network_word : Spells compound_kind (token.Word k.Network ∷ []) kinds.Network
unfolding compound_kind
a_network_word = one (token.Word k.Network) refl

-- a module or a network, by the word of its kind
a_compound : (n : ℕ) (inner : Rule NestedType) (P : NestedType → Type 0) → Spelled inner P → (kind : TypeKind) (w : Keyword) (text : List ℕ) (base : Option (List ℕ)) (is : List (List ℕ)) (ls : List SectionLine) (gs : List GateLine) (ss : List Submodule) (cs : ConnectionSection) (ts : List NestedType) → Spells compound_kind (token.Word w ∷ []) kind → CanBeCompound n (type_with kind text base is ls gs ss cs) → Each P ts → Spells (compound n inner) (token.Word w ∷ (head_tokens (type_with kind text base is ls gs ss cs) ++ in_braces (inside_tokens (type_with kind text base is ls gs ss cs) (map type_tokens ts)))) (nested_with (type_with kind text base is ls gs ss cs) ts)
unfolding compound
a_compound n inner P a_type kind w text base is ls gs ss cs ts word_is h each_in = mapped (then word_is (then (a_head text base is) (a_compound_block n inner P a_type ls gs ts ss cs h.2 h.3 each_in h.4 h.5)))

-- a type of each kind
kind_spells : (n : ℕ) (inner : Rule NestedType) (P : NestedType → Type 0) → Spelled inner P → (kind : TypeKind) (text : List ℕ) (base : Option (List ℕ)) (is : List (List ℕ)) (ls : List SectionLine) (gs : List GateLine) (ss : List Submodule) (cs : ConnectionSection) (ts : List NestedType) → CanBeParts n kind (type_with kind text base is ls gs ss cs) → CanBeTypes kind P ts → Spells (any_type n inner) (kind_tokens kind (type_with kind text base is ls gs ss cs) (map type_tokens ts)) (nested_with (type_with kind text base is ls gs ss cs) ts)
unfolding any_type module_type
kind_spells n inner P a_type kinds.Simple text base is ls gs ss cs ts h none_in = this (made lone channel_or_interface) (this (compound n inner) (alone ts none_in (a_simple text base is ls gs ss cs n h)))
kind_spells n inner P a_type kinds.Module text base is ls gs ss cs ts h each_in = this (made lone channel_or_interface) (that (made lone simple) (a_compound n inner P a_type kinds.Module k.Module text base is ls gs ss cs ts a_module_word h each_in))
kind_spells n inner P a_type kinds.Network text base is ls gs ss cs ts h each_in = this (made lone channel_or_interface) (that (made lone simple) (a_compound n inner P a_type kinds.Network k.Network text base is ls gs ss cs ts a_network_word h each_in))
kind_spells n inner P a_type kinds.Channel text base is ls gs ss cs ts h none_in = that (module_type n inner) (alone ts none_in (a_channel text base is ls gs ss cs n h))
kind_spells n inner P a_type kinds.ModuleInterface text base is ls gs ss cs ts h none_in = that (module_type n inner) (alone ts none_in (an_interface kinds.ModuleInterface k.ModuleInterface text base is ls gs ss cs a_module_interface_word h))
kind_spells n inner P a_type kinds.ChannelInterface text base is ls gs ss cs ts h none_in = that (module_type n inner) (alone ts none_in (an_interface kinds.ChannelInterface k.ChannelInterface text base is ls gs ss cs a_channel_interface_word h))

-- a type is made of its layer
made_again : (t : NestedType) → roll-NestedType (out-NestedType t) ≡ t
made_again t = search the_lemmas

-- a type with at most n blocks open at once
a_type : (n : ℕ) (t : NestedType) → CanBeNested n t → Spells (type_within n) (type_tokens t) t
unfolding type_within CanBeNested
a_type zero t h = absurd h
a_type (suc n) t h =
    let x = out-NestedType t in
    let d = x.declared in
    let spelled = kind_spells n (type_within n) (CanBeNested n) (a_type n) d.kind d.name d.base d.interfaces d.lines d.gates d.submodules d.connections x.types h.0.1 h.1 in
    to (subst (λ (us : List Token). Spells (any_type n (type_within n)) us (roll-NestedType x)) (sym (fold_out-NestedType (List Token) tokens_at t)) spelled) (made_again t)

-- a type of a file
an_entry : (t : NestedType) → CanBeNested max_blocks t → Spells entry (type_tokens t) (Some t)
unfolding entry
an_entry t h = that silent_entry (mapped (a_type max_blocks t h))

-- types as what a file has
abbrev as_entries : List NestedType → List (Option NestedType)
as_entries [] = []
as_entries (t ∷ ts) = Some t ∷ as_entries ts

-- all of them are its types
types_again : (ts : List NestedType) → types_in (as_entries ts) ≡ ts
types_again [] = refl
types_again (t ∷ ts) = ap (λ (l : List NestedType). t ∷ l) (types_again ts)

-- the types of a file
the_entries : (ts : List NestedType) → Each (CanBeNested max_blocks) ts → Spells (many entry) (listed_tokens type_tokens ts) (as_entries ts)
the_entries [] all = none entry
the_entries (t ∷ ts) all = more (an_entry t all.0) (the_entries ts all.1)

-- a file of these types
abbrev file_with : List NestedType → NedFile
file_with ts = record { types = ts }

-- a file
a_file : (f : NedFile) → CanBeFile f → Spells file (file_tokens f) f
unfolding file
a_file f h = to (mapped (the_entries f.types h)) (ap file_with (types_again f.types))

-- the standard tokens of a file spell it
pub file_is : (f : NedFile) → CanBeFile f → file.Is (file_tokens f) f
file_is f h = (a_file f h).is
