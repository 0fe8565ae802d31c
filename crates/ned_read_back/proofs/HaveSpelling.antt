-- Each token of a standard spelling has a spelling.
use Rattle.std.proofs.Common.{ℕ, zero, suc, Bool, true, false, List, [], ◌∷◌, ◌++◌, map, Option, Some, None, refl, sym, subst}
use Rattle.sim_values.specs.declared.value.Dimension.{Dimension}
use Rattle.sim_values.specs.declared.value.Dimension.TheVariants as dimension
use Rattle.ned_tokens.specs.declared.token.Keyword.{Keyword}
use Rattle.ned_tokens.specs.declared.token.Keyword.TheVariants as k
use Rattle.ned_tokens.specs.declared.token.Mark.TheVariants as m
use Rattle.ned_tokens.specs.declared.token.Token.{Token}
use Rattle.ned_tokens.specs.declared.token.Token.TheVariants as token
use Rattle.ned_tokens.specs.Words.{keyword_of, head_word, section_word, member_word, value_word}
use Rattle.ned_read_back.specs.Tokens.{unit_text, IsName, HaveSpelling}
use Rattle.ned_trees.specs.declared.expressions.Expression.{Expression}
use Rattle.ned_expressions.specs.Spelling.{expression_tokens}
use Rattle.ned_trees.specs.declared.declarations.ParameterValue.{ParameterValue}
use Rattle.ned_trees.specs.declared.declarations.ParameterValue.TheVariants as given
use Rattle.ned_trees.specs.declared.declarations.Declaration.{Declaration}
use Rattle.ned_trees.specs.declared.modes.Mode.{Mode}
use Rattle.ned_trees.specs.declared.modes.Mode.TheVariants as modes_are
use Rattle.ned_trees.specs.declared.declarations.RecordedMode.{RecordedMode}
use Rattle.ned_trees.specs.declared.declarations.Statistic.{Statistic}
use Rattle.ned_trees.specs.declared.declarations.SectionLine.{SectionLine}
use Rattle.ned_trees.specs.declared.declarations.SectionLine.TheVariants as lines
use Rattle.ned_trees.specs.declared.declarations.Submodule.{Submodule}
use Rattle.ned_trees.specs.declared.declarations.SubmoduleType.{SubmoduleType}
use Rattle.ned_trees.specs.declared.declarations.SubmoduleType.TheVariants as types_are
use Rattle.ned_trees.specs.declared.connections.Arrow.{Arrow}
use Rattle.ned_trees.specs.declared.connections.Half.{Half}
use Rattle.ned_trees.specs.declared.connections.Half.TheVariants as halves
use Rattle.ned_trees.specs.declared.connections.GateIndex.{GateIndex}
use Rattle.ned_trees.specs.declared.connections.GateIndex.TheVariants as indices
use Rattle.ned_trees.specs.declared.connections.Gate.{Gate}
use Rattle.ned_trees.specs.declared.connections.Owner.{Owner}
use Rattle.ned_trees.specs.declared.connections.End.{End}
use Rattle.ned_trees.specs.declared.connections.Channel.{Channel}
use Rattle.ned_trees.specs.declared.connections.Connection.{Connection}
use Rattle.ned_trees.specs.declared.connections.Clause.{Clause}
use Rattle.ned_trees.specs.declared.connections.Clause.TheVariants as clauses_are
use Rattle.ned_trees.specs.declared.connections.ConnectionLine.{ConnectionLine}
use Rattle.ned_trees.specs.declared.connections.ConnectionItem.{ConnectionItem}
use Rattle.ned_trees.specs.declared.connections.ConnectionItem.TheVariants as items
use Rattle.ned_trees.specs.declared.connections.ConnectionSection.{ConnectionSection}
use Rattle.ned_connections.specs.Grammar.{arrow_mark}
use Rattle.ned_trees.specs.declared.declarations.GateSize.{GateSize}
use Rattle.ned_trees.specs.declared.declarations.GateSize.TheVariants as sizes
use Rattle.ned_trees.specs.declared.declarations.GateLine.{GateLine}
use Rattle.ned_trees.specs.declared.declarations.GateLine.TheVariants as gate_lines
use Rattle.ned_trees.specs.declared.declarations.TypeKind.{TypeKind}
use Rattle.ned_trees.specs.declared.declarations.TypeKind.TheVariants as kinds
use Rattle.ned_trees.specs.declared.declarations.TypeDeclaration.{TypeDeclaration}
use Rattle.ned_trees.specs.declared.declarations.NestedType.{NestedType, out-NestedType}
use Rattle.ned_trees.specs.declared.declarations.NestedType.TheFolds.{fold_out-NestedType}
use Rattle.ned_trees.specs.declared.declarations.NedFile.{NedFile}
use Rattle.ned_trees.specs.Modes.{mode_name}
use Rattle.ned_syntax.specs.Grammar.{max_blocks}
use Rattle.ned_read_back.specs.Declarations.{listed_tokens, given_tokens, valued_tokens, unit_tokens, declaration_tokens, question_tokens, mode_tokens, next_mode_tokens, record_tokens, statistic_tokens, line_tokens, section_line_tokens, section_tokens, bracket_tokens, size_tokens, refined_size_tokens, loose_tokens, gate_tokens, gate_line_tokens, gates_tokens, in_braces, half_tokens, index_tokens, end_gate_tokens, owned_tokens, end_tokens, channel_tokens, behind_tokens, connection_tokens, clause_tokens, next_clause_tokens, clauses_tokens, connection_line_tokens, item_tokens, allowance_tokens, written_tokens, section_there, connections_tokens, body_tokens, angle_tokens, submodule_type_tokens, condition_tokens, submodule_tokens, submodules_tokens, base_tokens, next_name_tokens, names_tokens, head_tokens, interface_tokens, types_tokens, inside_tokens, kind_tokens, tokens_at, type_tokens, file_tokens}
use Rattle.ned_read_back.proofs.Spellable.{Each, IfThere, CanBeExpression, CanBeGiven, CanBeDeclaration, CanBeStatistic, CanBeLine, CanBeBodyLine, CanBeSize, CanBeGate, CanBeAngles, CanBeIndex, CanBeEndGate, CanBeOwner, CanBeEnd, CanBeChannel, CanBeConnection, CanBeClause, CanBeConnectionLine, CanBeClauses, CanBeItem, CanBeConnections, CanBeSubmoduleType, CanBeSubmodule, CanBeInterface, CanBeCompound, CanBeParts, CanBeTypes, CanBeFile, CanBeNested}

-- two lists in a row
have-append : (ts us : List Token) → HaveSpelling ts → HaveSpelling us → HaveSpelling (ts ++ us)
have-append [] us h k = k
have-append (t ∷ ts) us h k = (h.0, have-append ts us h.1 k)

-- one element after the other
have_listed : {X : Type 0} (f : X → List Token) (P : X → Type 0) → ((x : X) → P x → HaveSpelling (f x)) → (xs : List X) → Each P xs → HaveSpelling (listed_tokens f xs)
have_listed f P h [] all = tt
have_listed f P h (x ∷ xs) all = have-append (f x) (listed_tokens f xs) (h x all.0) (have_listed f P h xs all.1)

-- ---- values

-- an expression
pub have_expression : (e : Expression) → CanBeExpression e → HaveSpelling (expression_tokens e)
have_expression e h = h.spelled

-- a value, or `default(..)`
have_given : (g : ParameterValue) → CanBeGiven g → HaveSpelling (given_tokens g)
have_given (given.Fixed e) h = have_expression e h
have_given (given.Default e) h = (tt, (tt, have-append (expression_tokens e) (token.Mark m.RightParen ∷ []) (have_expression e h) (tt, tt)))

-- `= ..`, where there is a value
have_valued : (g : Option ParameterValue) → IfThere CanBeGiven g → HaveSpelling (valued_tokens g)
have_valued None h = tt
have_valued (Some g) h = (tt, have_given g h)

-- ---- lines

-- a unit is a name
unit_is_name : (d : Dimension) → IsName (unit_text d)
unfolding unit_text keyword_of head_word section_word member_word value_word
unit_is_name dimension.Time = (refl, refl, refl)
unit_is_name dimension.Rate = (refl, refl, refl)
unit_is_name dimension.Length = (refl, refl, refl)

-- `@unit(..)`, where there is a unit
have_unit : (unit : Option Dimension) → HaveSpelling (unit_tokens unit)
unfolding keyword_of head_word section_word member_word value_word
have_unit None = tt
have_unit (Some d) = (tt, ((refl, refl, refl), (tt, (unit_is_name d, (tt, tt)))))

-- a declaration
have_declaration : (d : Declaration) → CanBeDeclaration d → HaveSpelling (declaration_tokens d)
have_declaration d h = (tt, (h.0, have-append (unit_tokens d.unit) (valued_tokens d.value) (have_unit d.unit) (have_valued d.value h.2)))

-- the name of a mode is a name
mode_is_name : (w : Mode) → IsName (mode_name w)
unfolding keyword_of head_word section_word member_word value_word
mode_is_name modes_are.Count = (refl, refl, refl)
mode_is_name _ = (refl, refl, refl)

-- `?`, or nothing
have_question : (b : Bool) → HaveSpelling (question_tokens b)
have_question true = (tt, tt)
have_question false = tt

-- a mode
have_mode : (r : RecordedMode) → HaveSpelling (mode_tokens r)
have_mode r = (mode_is_name r.mode, have_question r.optional)

-- modes after commas
have_next_modes : (rs : List RecordedMode) → HaveSpelling (listed_tokens next_mode_tokens rs)
have_next_modes [] = tt
have_next_modes (r ∷ rs) = (tt, have-append (mode_tokens r) (listed_tokens next_mode_tokens rs) (have_mode r) (have_next_modes rs))

-- the modes, where there are some
have_record : (rs : List RecordedMode) → HaveSpelling (record_tokens rs)
unfolding keyword_of head_word section_word member_word value_word
have_record [] = tt
have_record (r ∷ rs) = (tt, ((refl, refl, refl), (tt, have-append (mode_tokens r) (listed_tokens next_mode_tokens rs) (have_mode r) (have_next_modes rs))))

-- a statistic
have_statistic : (s : Statistic) → CanBeStatistic s → HaveSpelling (statistic_tokens s)
unfolding keyword_of head_word section_word member_word value_word
have_statistic s h = (tt, ((refl, refl, refl), (tt, (h.0, (tt, (tt, ((refl, refl, refl), (tt, (h.1, have-append (record_tokens s.modes) (token.Mark m.RightParen ∷ []) (have_record s.modes) (tt, tt))))))))))

-- a line
have_line : (line : SectionLine) → CanBeLine line → HaveSpelling (line_tokens line)
unfolding keyword_of head_word section_word member_word value_word
have_line (lines.Declaration d) h = have_declaration d h
have_line (lines.Assignment a) h = (h.0, have_valued a.value h.1)
have_line (lines.Statistic s) h = have_statistic s h
have_line (lines.Class text) h = (tt, ((refl, refl, refl), (tt, (h, (tt, tt)))))
have_line lines.Ignored h = (tt, ((refl, refl, refl), tt))

-- a line with its `;`
have_section_line : (line : SectionLine) → CanBeLine line → HaveSpelling (section_line_tokens line)
have_section_line line h = have-append (line_tokens line) (token.Mark m.Semi ∷ []) (have_line line h) (tt, tt)

-- ---- types

-- a line of a body is a line
pub body_line_is_line : (line : SectionLine) → CanBeBodyLine line → CanBeLine line
body_line_is_line (lines.Declaration d) h = h
body_line_is_line (lines.Assignment a) h = h
body_line_is_line (lines.Statistic s) h = absurd h
body_line_is_line (lines.Class text) h = absurd h
body_line_is_line lines.Ignored h = tt

-- a line of a body with its `;`
have_body_line : (line : SectionLine) → CanBeBodyLine line → HaveSpelling (section_line_tokens line)
have_body_line line h = have_section_line line (body_line_is_line line h)

-- the parameters
have_body_section : (ls : List SectionLine) → Each CanBeBodyLine ls → HaveSpelling (section_tokens ls)
have_body_section ls h = (tt, (tt, have_listed section_line_tokens CanBeBodyLine have_body_line ls h))

-- what stands in braces
have_block : (ts : List Token) → HaveSpelling ts → HaveSpelling (in_braces ts)
have_block ts h = (tt, have-append ts (token.Mark m.Close ∷ []) h (tt, tt))

-- ---- gates

-- a size in brackets
have_brackets : (e : Expression) → CanBeExpression e → HaveSpelling (bracket_tokens e)
have_brackets e h = (tt, have-append (expression_tokens e) (token.Mark m.RightBracket ∷ []) (have_expression e h) (tt, tt))

-- a size, where there is one
have_size : (size : GateSize) → CanBeSize size → HaveSpelling (size_tokens size)
have_size sizes.Single h = tt
have_size sizes.Open h = (tt, (tt, tt))
have_size (sizes.Sized e) h = have_brackets e h

have_refined_size : (size : Option Expression) → IfThere CanBeExpression size → HaveSpelling (refined_size_tokens size)
have_refined_size None h = tt
have_refined_size (Some e) h = have_brackets e h

-- `@loose`, or nothing
have_loose : (b : Bool) → HaveSpelling (loose_tokens b)
unfolding keyword_of head_word section_word member_word value_word
have_loose true = (tt, ((refl, refl, refl), tt))
have_loose false = tt

-- a gate
have_gate : (g : GateLine) → CanBeGate g → HaveSpelling (gate_tokens g)
have_gate (gate_lines.Declaration g) h = (tt, (h.0, have-append (size_tokens g.size) (loose_tokens g.loose) (have_size g.size h.1) (have_loose g.loose)))
have_gate (gate_lines.Refinement g) h = (h.0, have-append (refined_size_tokens g.size) (loose_tokens g.loose) (have_refined_size g.size h.1) (have_loose g.loose))

-- a gate with its `;`
have_gate_line : (g : GateLine) → CanBeGate g → HaveSpelling (gate_line_tokens g)
have_gate_line g h = have-append (gate_tokens g) (token.Mark m.Semi ∷ []) (have_gate g h) (tt, tt)

-- the gates
have_gates : (gs : List GateLine) → Each CanBeGate gs → HaveSpelling (gates_tokens gs)
have_gates [] h = tt
have_gates (g ∷ gs) h = (tt, (tt, have_listed gate_line_tokens CanBeGate have_gate_line (g ∷ gs) h))

-- ---- connections

-- `$i` or `$o`, where it is a half
have_half : (h : Option Half) → HaveSpelling (half_tokens h)
have_half None = tt
have_half (Some halves.Input) = (tt, tt)
have_half (Some halves.Output) = (tt, tt)

-- an index, where there is one
have_index : (i : Option GateIndex) → IfThere CanBeIndex i → HaveSpelling (index_tokens i)
have_index None h = tt
have_index (Some (indices.At e)) h = have_brackets e h
have_index (Some indices.Next) h = (tt, tt)

-- the gate of an end
have_end_gate : (g : Gate) → CanBeEndGate g → HaveSpelling (end_gate_tokens g)
have_end_gate g h = (h.0, have-append (half_tokens g.half) (index_tokens g.index) (have_half g.half) (have_index g.index h.1))

-- an end
have_owned : (o : Option Owner) (g : Gate) → IfThere CanBeOwner o → CanBeEndGate g → HaveSpelling (owned_tokens o g)
have_owned None g h k = have_end_gate g k
have_owned (Some o) g h k = (h.0, have-append (refined_size_tokens o.index) (token.Mark m.Dot ∷ end_gate_tokens g) (have_refined_size o.index h.1) (tt, have_end_gate g k))

have_end : (e : End) → CanBeEnd e → HaveSpelling (end_tokens e)
have_end e h = have_owned e.owner e.gate h.0 h.1

-- a channel
have_channel : (text : Option (List ℕ)) (ls : List SectionLine) → IfThere IsName text → Each CanBeBodyLine ls → HaveSpelling (channel_tokens text ls)
have_channel None ls h k = have_block (section_tokens ls) (have_body_section ls k)
have_channel (Some text) [] h k = (h, tt)
have_channel (Some text) (line ∷ ls) h k = (h, have_block (section_tokens (line ∷ ls)) (have_body_section (line ∷ ls) k))

-- what stands after the first arrow
have_behind : (n : ℕ) (a : Arrow) (c : Option Channel) (e : End) → IfThere (CanBeChannel n) c → CanBeEnd e → HaveSpelling (behind_tokens a c e)
have_behind n a None e h k = have_end e k
have_behind n a (Some c) e h k = have-append (channel_tokens c.type_name c.lines) (token.Mark (arrow_mark a) ∷ end_tokens e) (have_channel c.type_name c.lines h.0 h.1) (tt, have_end e k)

-- a connection
have_connection : (n : ℕ) (c : Connection) → CanBeConnection n c → HaveSpelling (connection_tokens c)
have_connection n c h = have-append (end_tokens c.left) (token.Mark (arrow_mark c.arrow) ∷ behind_tokens c.arrow c.channel c.right) (have_end c.left h.0) (tt, have_behind n c.arrow c.channel c.right h.1 h.2)

-- a loop or a condition
have_clause : (c : Clause) → CanBeClause c → HaveSpelling (clause_tokens c)
have_clause (clauses_are.For l) h = (tt, (h.0, (tt, have-append (expression_tokens l.first) (token.Mark m.DotDot ∷ expression_tokens l.last) (have_expression l.first h.1) (tt, have_expression l.last h.2))))
have_clause (clauses_are.If e) h = (tt, have_expression e h)

have_next_clause : (c : Clause) → CanBeClause c → HaveSpelling (next_clause_tokens c)
have_next_clause c h = (tt, have_clause c h)

-- loops and conditions
have_clauses : (cs : List Clause) → Each CanBeClause cs → HaveSpelling (clauses_tokens cs)
have_clauses [] h = tt
have_clauses (c ∷ cs) h = have-append (clause_tokens c) (listed_tokens next_clause_tokens cs) (have_clause c h.0) (have_listed next_clause_tokens CanBeClause have_next_clause cs h.1)

some_clauses : (cs : List Clause) → CanBeClauses cs → HaveSpelling (clauses_tokens cs)
some_clauses [] h = absurd h
some_clauses (c ∷ cs) h = have_clauses (c ∷ cs) h

-- a connection with its loops and conditions
have_connection_line : (n : ℕ) (l : ConnectionLine) → CanBeConnectionLine n l → HaveSpelling (connection_line_tokens l)
have_connection_line n l h = have-append (connection_tokens l.connection ++ clauses_tokens l.clauses) (token.Mark m.Semi ∷ []) (have-append (connection_tokens l.connection) (clauses_tokens l.clauses) (have_connection n l.connection h.0) (have_clauses l.clauses h.1)) (tt, tt)

-- an item
pub have_item : (n : ℕ) (i : ConnectionItem) → CanBeItem n i → HaveSpelling (item_tokens i)
have_item n (items.Line l) h = have_connection_line n l h
have_item zero (items.Group g) h = absurd h
have_item (suc n) (items.Group g) h = have-append (clauses_tokens g.clauses) (in_braces (listed_tokens connection_line_tokens g.lines)) (some_clauses g.clauses h.0) (have_block (listed_tokens connection_line_tokens g.lines) (have_listed connection_line_tokens (CanBeConnectionLine n) (have_connection_line n) g.lines h.1))

-- `allowunconnected`, or nothing
have_allowance : (b : Bool) → HaveSpelling (allowance_tokens b)
have_allowance true = (tt, tt)
have_allowance false = tt

-- a section
have_written : (n : ℕ) (s : ConnectionSection) → CanBeConnections n s → HaveSpelling (written_tokens s)
have_written n s h = (tt, have-append (allowance_tokens s.allow_unconnected) (token.Mark m.Colon ∷ listed_tokens item_tokens s.items) (have_allowance s.allow_unconnected) (tt, have_listed item_tokens (CanBeItem n) (have_item n) s.items h))

have_there : (b : Bool) (is : List ConnectionItem) (ts : List Token) → HaveSpelling ts → HaveSpelling (section_there b is ts)
have_there false [] ts h = tt
have_there false (i ∷ is) ts h = h
have_there true is ts h = h

-- the connections of a type
have_connections : (n : ℕ) (s : ConnectionSection) → CanBeConnections n s → HaveSpelling (connections_tokens s)
have_connections n s h = have_there s.allow_unconnected s.items (written_tokens s) (have_written n s h)

-- ---- submodules

-- the body of a submodule
have_body : (ls : List SectionLine) (gs : List GateLine) → Each CanBeBodyLine ls → Each CanBeGate gs → HaveSpelling (body_tokens ls gs)
have_body [] [] h k = (tt, tt)
have_body (line ∷ ls) gs h k = have_block (section_tokens (line ∷ ls) ++ gates_tokens gs) (have-append (section_tokens (line ∷ ls)) (gates_tokens gs) (have_body_section (line ∷ ls) h) (have_gates gs k))
have_body [] (g ∷ gs) h k = have_block (section_tokens [] ++ gates_tokens (g ∷ gs)) (have-append (section_tokens []) (gates_tokens (g ∷ gs)) (tt, (tt, tt)) (have_gates (g ∷ gs) k))

-- the value between angles
have_angles : (v : Option ParameterValue) → IfThere CanBeAngles v → HaveSpelling (angle_tokens v)
have_angles None h = tt
have_angles (Some (given.Fixed e)) h = h.spelled
have_angles (Some (given.Default e)) h = have_given (given.Default e) h

-- the type of a submodule
have_submodule_type : (t : SubmoduleType) → CanBeSubmoduleType t → HaveSpelling (submodule_type_tokens t)
have_submodule_type (types_are.Named text) h = (h, tt)
have_submodule_type (types_are.Like t) h = have-append (token.Mark m.Less ∷ (angle_tokens t.given ++ token.Mark m.Greater ∷ [])) (token.Word k.Like ∷ token.Name t.interface ∷ []) (tt, have-append (angle_tokens t.given) (token.Mark m.Greater ∷ []) (have_angles t.given h.0) (tt, tt)) (tt, (h.1, tt))

-- a condition
have_condition : (c : Option Expression) → IfThere CanBeExpression c → HaveSpelling (condition_tokens c)
have_condition None h = tt
have_condition (Some e) h = (tt, have_expression e h)

-- a submodule
have_submodule : (n : ℕ) (s : Submodule) → CanBeSubmodule n s → HaveSpelling (submodule_tokens s)
have_submodule n s h =
    let body = have_body s.body.lines s.body.gates h.4.0 h.4.1 in
    let behind = have-append (condition_tokens s.condition) (body_tokens s.body.lines s.body.gates) (have_condition s.condition h.3) body in
    let rest = have-append (submodule_type_tokens s.submodule_type) (condition_tokens s.condition ++ body_tokens s.body.lines s.body.gates) (have_submodule_type s.submodule_type h.2) behind in
    (h.0, have-append (refined_size_tokens s.size) (token.Mark m.Colon ∷ (submodule_type_tokens s.submodule_type ++ (condition_tokens s.condition ++ body_tokens s.body.lines s.body.gates))) (have_refined_size s.size h.1) (tt, rest))

-- the submodules of a network
have_submodules : (n : ℕ) (ss : List Submodule) → Each (CanBeSubmodule n) ss → HaveSpelling (submodules_tokens ss)
have_submodules n ss h = (tt, (tt, have_listed submodule_tokens (CanBeSubmodule n) (have_submodule n) ss h))

-- a parameter section
have_section : (ls : List SectionLine) → Each CanBeLine ls → HaveSpelling (section_tokens ls)
have_section ls h = (tt, (tt, have_listed section_line_tokens CanBeLine have_section_line ls h))

-- what a type extends
have_base : (base : Option (List ℕ)) → IfThere IsName base → HaveSpelling (base_tokens base)
have_base None h = tt
have_base (Some name) h = (tt, (h, tt))

-- a name after a comma
have_next_name : (text : List ℕ) → IsName text → HaveSpelling (next_name_tokens text)
have_next_name text h = (tt, (h, tt))

-- names after a word, where there are some
have_names : (w : Keyword) (names : List (List ℕ)) → Each IsName names → HaveSpelling (names_tokens w names)
have_names w [] h = tt
have_names w (text ∷ names) h = (tt, (h.0, have_listed next_name_tokens IsName have_next_name names h.1))

-- the head of a type
have_head : (d : TypeDeclaration) → IsName d.name → IfThere IsName d.base → Each IsName d.interfaces → HaveSpelling (head_tokens d)
have_head d h base names = (h, have-append (base_tokens d.base) (names_tokens k.Like d.interfaces) (have_base d.base base) (have_names k.Like d.interfaces names))

-- a head, and what stands in braces after it
have_parts : (d : TypeDeclaration) (ts : List Token) → HaveSpelling (head_tokens d) → HaveSpelling ts → HaveSpelling (head_tokens d ++ in_braces ts)
have_parts d ts h k = have-append (head_tokens d) (in_braces ts) h (have_block ts k)

-- parameters and gates
have_gated : (d : TypeDeclaration) → Each CanBeLine d.lines → Each CanBeGate d.gates → HaveSpelling (section_tokens d.lines ++ gates_tokens d.gates)
have_gated d h k = have-append (section_tokens d.lines) (gates_tokens d.gates) (have_section d.lines h) (have_gates d.gates k)

-- an interface
have_interface : (w : Keyword) (d : TypeDeclaration) → IsName d.name → CanBeInterface d → HaveSpelling (interface_tokens w d)
have_interface w d h parts =
    let inside = have_block (section_tokens d.lines ++ gates_tokens d.gates) (have_gated d parts.1 parts.2) in
    (tt, (h, have-append (names_tokens k.Extends d.interfaces) (in_braces (section_tokens d.lines ++ gates_tokens d.gates)) (have_names k.Extends d.interfaces parts.0) inside))

-- the tokens of types, one type after the other
have_each : (P : NestedType → Type 0) → ((t : NestedType) → P t → HaveSpelling (type_tokens t)) → (ts : List NestedType) → Each P ts → HaveSpelling (listed_tokens (λ us. us) (map type_tokens ts))
have_each P one [] h = tt
have_each P one (t ∷ ts) h = have-append (type_tokens t) (listed_tokens (λ us. us) (map type_tokens ts)) (one t h.0) (have_each P one ts h.1)

-- the types within a type, where there are some
have_types : (P : NestedType → Type 0) → ((t : NestedType) → P t → HaveSpelling (type_tokens t)) → (ts : List NestedType) → Each P ts → HaveSpelling (types_tokens (map type_tokens ts))
have_types P one [] h = tt
have_types P one (t ∷ ts) h = (tt, (tt, have_each P one (t ∷ ts) h))

-- what stands between the braces of a module or a network
have_inside : (n : ℕ) (P : NestedType → Type 0) → ((t : NestedType) → P t → HaveSpelling (type_tokens t)) → (d : TypeDeclaration) (ts : List NestedType) → CanBeCompound n d → Each P ts → HaveSpelling (inside_tokens d (map type_tokens ts))
have_inside n P one d ts parts inner =
    let types = types_tokens (map type_tokens ts) in
    let last = have-append (submodules_tokens d.submodules) (connections_tokens d.connections) (have_submodules n d.submodules parts.4) (have_connections n d.connections parts.5) in
    let within = have-append types (submodules_tokens d.submodules ++ connections_tokens d.connections) (have_types P one ts inner) last in
    let behind = have-append (gates_tokens d.gates) (types ++ (submodules_tokens d.submodules ++ connections_tokens d.connections)) (have_gates d.gates parts.3) within in
    have-append (section_tokens d.lines) (gates_tokens d.gates ++ (types ++ (submodules_tokens d.submodules ++ connections_tokens d.connections))) (have_section d.lines parts.2) behind

-- a type of each kind
have_kind : (n : ℕ) (P : NestedType → Type 0) → ((t : NestedType) → P t → HaveSpelling (type_tokens t)) → (kind : TypeKind) (d : TypeDeclaration) (ts : List NestedType) → IsName d.name → CanBeParts n kind d → CanBeTypes kind P ts → HaveSpelling (kind_tokens kind d (map type_tokens ts))
have_kind n P one kinds.Simple d ts h parts inner = (tt, have_parts d (section_tokens d.lines ++ gates_tokens d.gates) (have_head d h parts.0 parts.1) (have_gated d parts.2 parts.3))
have_kind n P one kinds.Module d ts h parts inner = (tt, have_parts d (inside_tokens d (map type_tokens ts)) (have_head d h parts.0 parts.1) (have_inside n P one d ts parts inner))
have_kind n P one kinds.Network d ts h parts inner = (tt, have_parts d (inside_tokens d (map type_tokens ts)) (have_head d h parts.0 parts.1) (have_inside n P one d ts parts inner))
have_kind n P one kinds.Channel d ts h parts inner = (tt, have_parts d (section_tokens d.lines) (have_head d h parts.0 parts.1) (have_section d.lines parts.2))
have_kind n P one kinds.ModuleInterface d ts h parts inner = have_interface k.ModuleInterface d h parts
have_kind n P one kinds.ChannelInterface d ts h parts inner = have_interface k.ChannelInterface d h parts

-- a type with at most n blocks open at once
have_type : (n : ℕ) (t : NestedType) → CanBeNested n t → HaveSpelling (type_tokens t)
unfolding CanBeNested
have_type zero t h = absurd h
have_type (suc n) t h =
    let x = out-NestedType t in
    subst HaveSpelling (sym (fold_out-NestedType (List Token) tokens_at t)) (have_kind n (CanBeNested n) (have_type n) x.declared.kind x.declared x.types h.0.0 h.0.1 h.1)

-- a file
pub have_file : (f : NedFile) → CanBeFile f → HaveSpelling (file_tokens f)
have_file f h = have_listed type_tokens (CanBeNested max_blocks) (have_type max_blocks) f.types h
