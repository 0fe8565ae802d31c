-- What a text says of connections can be said.
use Rattle.std.proofs.Common.{◌≡◌, ℕ, zero, suc, Bool, true, false, List, [], ◌∷◌, Option, Some, None, refl, ap}
use Rattle.std.specs.Prelude.{is_some}
use Rattle.std.proofs.lemmas.Bool.{false≢true}
use Rattle.ned_tokens.specs.declared.token.Keyword.TheVariants as k
use Rattle.ned_tokens.specs.declared.token.Mark.TheVariants as m
use Rattle.ned_tokens.specs.declared.token.Token.{Token}
use Rattle.ned_tokens.specs.Rule.{Rule, optional, sealed}
use Rattle.ned_tokens.specs.Growth.{never}
use Rattle.ned_trees.specs.declared.declarations.SectionLine.{SectionLine}
use Rattle.ned_trees.specs.declared.connections.Arrow.{Arrow}
use Rattle.ned_trees.specs.declared.connections.Arrow.TheVariants as arrows
use Rattle.ned_trees.specs.declared.connections.Clause.{Clause}
use Rattle.ned_trees.specs.declared.connections.ConnectionItem.{ConnectionItem}
use Rattle.ned_trees.specs.declared.connections.ConnectionSection.{ConnectionSection}
use Rattle.ned_connections.specs.declared.ends.EndTail.{EndTail}
use Rattle.ned_connections.specs.declared.ends.EndTail.TheVariants as tails
use Rattle.ned_connections.specs.declared.channels.ChannelRest.{ChannelRest}
use Rattle.ned_connections.specs.declared.channels.DottedTail.{DottedTail}
use Rattle.ned_connections.specs.declared.channels.DottedTail.TheVariants as dots
use Rattle.ned_connections.specs.declared.channels.NameTail.{NameTail}
use Rattle.ned_connections.specs.declared.channels.NameTail.TheVariants as behind_name
use Rattle.ned_connections.specs.declared.channels.Behind.{Behind}
use Rattle.ned_connections.specs.Grammar.{listed, word, mark, bracketed_expression, body_block, optional_semi, max_blocks, half, index_at, index_next, gate_index, optional_index, dotted_gate, indexed, halved, next_gate, gate_tail, end_tail, end_of, end, arrow_mark, optional_block, last_end, block_within, channel_rest, longer, dotted_half, dotted_index, dotted_tail, dotted_name, name_tail, through, behind_dotted, behind_of, named_behind, block_behind, open_behind, behind_within, behind_arrow, arm, arms, connection, bounds, loop_clause, condition, clause, next_clause, clauses, optional_clauses, connection_line, group_block, closed_block, group, group_or_line, item_within, item, whole_item, allowance, connection_section, section_or_none, connections}
use Rattle.ned_read_back.specs.Tokens.{IsName}
use Rattle.ned_read_back.proofs.SoundTokens.{AreSound}
use Rattle.ned_read_back.proofs.Spellable.{Each, IfThere, CanBeExpression, CanBeBodyLine, CanBeIndex, CanBeEndGate, CanBeEnd, ChannelHasRoom, CanBeChannel, CanBeConnection, CanBeClause, CanBeConnectionLine, CanBeClauses, CanBeGroup, CanBeItem, CanBeConnections}
use Rattle.ned_read_back.proofs.Keeps.{Keeps, anything, one, then, mapped, before, after, choice, perhaps, each, weaker, keeps_name, keeps_expression, keeps_dotted, keeps_body_section, keeps_size_value, listed_can}

-- a rule with its tokens named
closed : {X : Type 0} {starts goes_on : Token → Bool} {r : Rule X} {P : X → Type 0} → Keeps r P → Keeps (sealed starts goes_on r) P
closed p = record { kept = λ ts x h is. p.kept ts x h is }

-- ---- gates

-- an expression in brackets
keeps_brackets : Keeps bracketed_expression CanBeExpression
unfolding bracketed_expression
keeps_brackets = before (mark m.LeftBracket) keeps_size_value

-- an index
keeps_index : Keeps gate_index CanBeIndex
unfolding gate_index index_at index_next
keeps_index = choice (mapped (λ e h. h) keeps_brackets) (mapped (λ x h. tt) (anything (mark m.PlusPlus)))

-- an index, where there is one
keeps_optional_index : Keeps optional_index (IfThere CanBeIndex)
unfolding optional_index
keeps_optional_index = perhaps keeps_index

-- a gate after a `.`
keeps_dotted_gate : Keeps dotted_gate CanBeEndGate
unfolding dotted_gate
keeps_dotted_gate = before (mark m.Dot) (mapped (λ p h. (h.0, h.1.1)) (then keeps_name (then (anything (optional half)) keeps_optional_index)))

-- ---- ends

-- what stands after an end's first name
abbrev CanBeEndTail : EndTail → Type 0
CanBeEndTail (tails.Dotted g) = CanBeEndGate g
CanBeEndTail (tails.Indexed e g) = CanBeExpression e × IfThere CanBeEndGate g
CanBeEndTail (tails.Halved h i) = IfThere CanBeIndex i
CanBeEndTail tails.Next = Unit {0}

-- what of it is no `.gate`
keeps_gate_tail : Keeps gate_tail CanBeEndTail
unfolding gate_tail indexed halved next_gate
keeps_gate_tail = closed (choice (mapped (λ p h. h) (then keeps_brackets (perhaps keeps_dotted_gate))) (choice (mapped (λ p h. h.1) (then (anything half) keeps_optional_index)) (mapped (λ x h. tt) (anything (mark m.PlusPlus)))))

-- all of it
keeps_end_tail : Keeps end_tail CanBeEndTail
unfolding end_tail
keeps_end_tail = closed (choice (mapped (λ g h. h) keeps_dotted_gate) keeps_gate_tail)

-- the end that begins with a name
end_can : (text : List ℕ) (t : Option EndTail) → IsName text → IfThere CanBeEndTail t → CanBeEnd (end_of text t)
end_can text None h k = (tt, (h, tt))
end_can text (Some (tails.Dotted g)) h k = ((h, tt), k)
end_can text (Some (tails.Indexed e None)) h k = (tt, (h, k.0))
end_can text (Some (tails.Indexed e (Some g))) h k = ((h, k.0), k.1)
end_can text (Some (tails.Halved w i)) h k = (tt, (h, k))
end_can text (Some tails.Next) h k = (tt, (h, tt))

-- an end
keeps_end : Keeps end CanBeEnd
unfolding end
keeps_end = closed (mapped (λ p h. end_can p.0 p.1 h.0 h.1) (then keeps_name (perhaps keeps_end_tail)))

-- ---- channels

-- where no block may be opened there are no lines
abbrev RestHasRoom : ℕ → List SectionLine → Type 0
RestHasRoom zero ls = ls ≡ []
RestHasRoom (suc n) ls = Unit {0}

-- lines that have room
abbrev CanBeLines : ℕ → List SectionLine → Type 0
CanBeLines n ls = Each CanBeBodyLine ls × RestHasRoom n ls

-- a block
keeps_block : Keeps body_block (Each CanBeBodyLine)
keeps_block = before (mark m.Open) (after (mark m.Close) keeps_body_section)

-- nothing
none_can : (o : Option (List SectionLine)) → IfThere (λ ls. ⊥) o → CanBeLines zero (listed o)
none_can None h = (tt, refl)
none_can (Some ls) h = absurd h

-- a block, where it may be opened
keeps_block_within : (n : ℕ) → Keeps (block_within n) (CanBeLines n)
unfolding block_within optional_block
keeps_block_within zero = mapped none_can (perhaps (one never (λ ls. ⊥) (λ t x h e. absurd (false≢true (ap is_some e)))))
keeps_block_within (suc n) = mapped (λ o h. (listed_can CanBeBodyLine o h, tt)) (perhaps keeps_block)

-- the right end
keeps_last_end : (a : Arrow) → Keeps (last_end a) CanBeEnd
unfolding last_end
keeps_last_end a = before (mark (arrow_mark a)) keeps_end

-- what stands after the type of a channel
abbrev CanBeRest : ℕ → ChannelRest → Type 0
CanBeRest n r = CanBeLines n r.lines × CanBeEnd r.end

keeps_rest : (n : ℕ) (a : Arrow) → Keeps (channel_rest n a) (CanBeRest n)
unfolding channel_rest
keeps_rest n a = closed (mapped (λ p h. h) (then (keeps_block_within n) (keeps_last_end a)))

-- what stands after two names
abbrev CanBeDottedTail : ℕ → DottedTail → Type 0
CanBeDottedTail n (dots.Gate h i) = IfThere CanBeIndex i
CanBeDottedTail n (dots.Longer last r) = IsName last × CanBeRest n r
CanBeDottedTail n (dots.Channel r) = CanBeRest n r

keeps_dotted_tail : (n : ℕ) (a : Arrow) → Keeps (dotted_tail n a) (CanBeDottedTail n)
unfolding dotted_tail dotted_half dotted_index longer
keeps_dotted_tail n a = closed (choice (mapped (λ p h. h.1) (then (anything half) keeps_optional_index)) (choice (mapped (λ i h. h) keeps_index) (choice (mapped (λ p h. h) (then (before (mark m.Dot) keeps_dotted) (keeps_rest n a))) (mapped (λ r h. h) (keeps_rest n a)))))

-- what stands after a name
abbrev CanBeNameTail : ℕ → NameTail → Type 0
CanBeNameTail n (behind_name.End t) = CanBeEndTail t
CanBeNameTail n (behind_name.Dotted other t) = IsName other × IfThere (CanBeDottedTail n) t
CanBeNameTail n (behind_name.Channel r) = CanBeRest n r

keeps_name_tail : (n : ℕ) (a : Arrow) → Keeps (name_tail n a) (CanBeNameTail n)
unfolding name_tail dotted_name
keeps_name_tail n a = closed (choice (mapped (λ t h. h) keeps_gate_tail) (choice (mapped (λ p h. h) (then (before (mark m.Dot) keeps_name) (perhaps (keeps_dotted_tail n a)))) (mapped (λ r h. h) (keeps_rest n a))))

-- what stands after the first arrow
abbrev CanBeBehind : ℕ → Behind → Type 0
CanBeBehind n b = IfThere (CanBeChannel n) b.channel × CanBeEnd b.end

-- a channel with a type has room where its lines have
has_room : (n : ℕ) (text : List ℕ) (ls : List SectionLine) → RestHasRoom n ls → ChannelHasRoom n (Some text) ls
has_room zero text ls h = (refl, h)
has_room (suc n) text ls h = tt

through_can : (n : ℕ) (text : List ℕ) (r : ChannelRest) → IsName text → CanBeRest n r → CanBeBehind n (through (Some text) r)
through_can n text r h k = ((h, k.0.0, has_room n text r.lines k.0.1), k.1)

-- what begins with two names
dotted_can : (n : ℕ) (text other : List ℕ) (t : Option DottedTail) → IsName text → IsName other → IfThere (CanBeDottedTail n) t → CanBeBehind n (behind_dotted text other t)
dotted_can n text other None h o k = (tt, ((h, tt), (o, tt)))
dotted_can n text other (Some (dots.Gate w i)) h o k = (tt, ((h, tt), (o, k)))
dotted_can n text other (Some (dots.Longer last r)) h o k = through_can n last r k.0 k.1
dotted_can n text other (Some (dots.Channel r)) h o k = through_can n other r o k

-- what begins with a name
behind_can : (n : ℕ) (text : List ℕ) (t : Option NameTail) → IsName text → IfThere (CanBeNameTail n) t → CanBeBehind n (behind_of text t)
behind_can n text None h k = (tt, (tt, (h, tt)))
behind_can n text (Some (behind_name.End t)) h k = (tt, end_can text (Some t) h k)
behind_can n text (Some (behind_name.Dotted other t)) h k = dotted_can n text other t h k.0 k.1
behind_can n text (Some (behind_name.Channel r)) h k = through_can n text r h k

keeps_named_behind : (n : ℕ) (a : Arrow) → Keeps (named_behind n a) (CanBeBehind n)
unfolding named_behind
keeps_named_behind n a = mapped (λ p h. behind_can n p.0 p.1 h.0 h.1) (then keeps_name (perhaps (keeps_name_tail n a)))

-- a channel without a type
keeps_block_behind : (n : ℕ) (a : Arrow) → Keeps (block_behind a) (CanBeBehind (suc n))
unfolding block_behind
keeps_block_behind n a = mapped (λ p h. ((tt, h.0, tt), h.1)) (then keeps_block (keeps_last_end a))

keeps_behind_within : (n : ℕ) (a : Arrow) → Keeps (behind_within n a) (CanBeBehind n)
unfolding behind_within open_behind
keeps_behind_within zero a = keeps_named_behind zero a
keeps_behind_within (suc n) a = choice (keeps_block_behind n a) (keeps_named_behind (suc n) a)

keeps_behind : (n : ℕ) (a : Arrow) → Keeps (behind_arrow n a) (CanBeBehind n)
unfolding behind_arrow
keeps_behind n a = closed (keeps_behind_within n a)

-- ---- connections

-- an arrow, and what stands after it
abbrev CanBeArm : ℕ → Arrow × Behind → Type 0
CanBeArm n p = CanBeBehind n p.1

keeps_arm : (n : ℕ) (a : Arrow) → Keeps (arm n a) (CanBeArm n)
unfolding arm
keeps_arm n a = mapped (λ b h. h) (before (mark (arrow_mark a)) (keeps_behind n a))

keeps_arms : (n : ℕ) → Keeps (arms n) (CanBeArm n)
unfolding arms
keeps_arms n = choice (keeps_arm n arrows.Right) (choice (keeps_arm n arrows.Left) (keeps_arm n arrows.Both))

-- a connection
keeps_connection : (n : ℕ) → Keeps (connection n) (CanBeConnection n)
unfolding connection
keeps_connection n = closed (mapped (λ p h. (h.0, h.1.0, h.1.1)) (then keeps_end (keeps_arms n)))

-- ---- loops and conditions

-- a condition
pub keeps_condition : Keeps condition CanBeExpression
unfolding condition
keeps_condition = before (word k.If) keeps_expression

-- a loop or a condition
keeps_clause : Keeps clause CanBeClause
unfolding clause loop_clause bounds
keeps_clause = choice (mapped (λ p h. (h.0, h.1.0, h.1.1)) (before (word k.For) (then keeps_name (before (mark m.Equals) (then keeps_expression (before (mark m.DotDot) keeps_expression)))))) (mapped (λ e h. h) keeps_condition)

-- at least one
keeps_clauses : Keeps clauses CanBeClauses
unfolding clauses next_clause
keeps_clauses = mapped (λ p h. h) (then keeps_clause (each (before (mark m.Comma) keeps_clause)))

each_clause : (cs : List Clause) → CanBeClauses cs → Each CanBeClause cs
each_clause [] h = absurd h
each_clause (c ∷ cs) h = h

-- any number
keeps_optional_clauses : Keeps optional_clauses (Each CanBeClause)
unfolding optional_clauses
keeps_optional_clauses = mapped (listed_can CanBeClause) (perhaps (weaker each_clause keeps_clauses))

-- ---- items

-- a connection with its loops and conditions
keeps_connection_line : (n : ℕ) → Keeps (connection_line n) (CanBeConnectionLine n)
unfolding connection_line
keeps_connection_line n = mapped (λ p h. h) (after (mark m.Semi) (then (keeps_connection n) keeps_optional_clauses))

-- connections with loops and conditions in common
keeps_group : (n : ℕ) → Keeps (group n) (CanBeGroup (suc n))
unfolding group closed_block group_block
keeps_group n = mapped (λ p h. h) (then keeps_clauses (after optional_semi (before (mark m.Open) (after (mark m.Close) (each (keeps_connection_line n))))))

keeps_item_within : (n : ℕ) → Keeps (item_within n) (CanBeItem n)
unfolding item_within group_or_line
keeps_item_within zero = mapped (λ l h. h) (keeps_connection_line zero)
keeps_item_within (suc n) = choice (mapped (λ g h. h) (keeps_group n)) (mapped (λ l h. h) (keeps_connection_line (suc n)))

-- an item
keeps_item : (n : ℕ) → Keeps (item n) (CanBeItem n)
unfolding item
keeps_item n = closed (keeps_item_within n)

-- what the text of an item says can be said
pub item_can : (ts : List Token) (i : ConnectionItem) → AreSound ts → whole_item.Is ts i → CanBeItem max_blocks i
unfolding whole_item
item_can ts i h is = (keeps_item max_blocks).kept ts i h is

-- ---- sections

keeps_section : (n : ℕ) → Keeps (connection_section n) (CanBeConnections n)
unfolding connection_section
keeps_section n = mapped (λ p h. h.1) (before (word k.Connections) (then (anything allowance) (before (mark m.Colon) (each (keeps_item n)))))

section_can : (n : ℕ) (o : Option ConnectionSection) → IfThere (CanBeConnections n) o → CanBeConnections n (section_or_none o)
section_can n None h = tt
section_can n (Some s) h = h

-- the connections of a type
pub keeps_connections : (n : ℕ) → Keeps (connections n) (CanBeConnections n)
unfolding connections
keeps_connections n = mapped (section_can n) (perhaps (keeps_section n))
