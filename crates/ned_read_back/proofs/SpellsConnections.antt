-- The standard tokens of connections say them.
use Rattle.std.proofs.Common.{ℕ, zero, suc, Bool, true, false, List, [], ◌∷◌, ◌++◌, Option, Some, None, refl, subst, append-nil}
use Rattle.std.proofs.lemmas.Bool.{false≢true}
use Rattle.ned_tokens.specs.declared.token.Keyword.TheVariants as k
use Rattle.ned_tokens.specs.declared.token.Mark.TheVariants as m
use Rattle.ned_tokens.specs.declared.token.Token.{Token}
use Rattle.ned_tokens.specs.declared.token.Token.TheVariants as token
use Rattle.ned_tokens.specs.Rule.{Rule, token as one_token, ◌⊗◌, made, either, optional, sealed}
use Rattle.ned_tokens.specs.Growth.{never}
use Rattle.ned_trees.specs.declared.expressions.Expression.{Expression}
use Rattle.ned_trees.specs.declared.declarations.SectionLine.{SectionLine}
use Rattle.ned_trees.specs.declared.connections.Arrow.{Arrow}
use Rattle.ned_trees.specs.declared.connections.Arrow.TheVariants as arrows
use Rattle.ned_trees.specs.declared.connections.Half.{Half}
use Rattle.ned_trees.specs.declared.connections.Half.TheVariants as halves
use Rattle.ned_trees.specs.declared.connections.GateIndex.{GateIndex}
use Rattle.ned_trees.specs.declared.connections.GateIndex.TheVariants as indices
use Rattle.ned_trees.specs.declared.connections.Gate.{Gate}
use Rattle.ned_trees.specs.declared.connections.Owner.{Owner}
use Rattle.ned_trees.specs.declared.connections.End.{End}
use Rattle.ned_trees.specs.declared.connections.Channel.{Channel}
use Rattle.ned_trees.specs.declared.connections.Connection.{Connection}
use Rattle.ned_trees.specs.declared.connections.Clause.{Clause}
use Rattle.ned_trees.specs.declared.connections.Clause.TheVariants as clauses_are
use Rattle.ned_trees.specs.declared.connections.ConnectionLine.{ConnectionLine}
use Rattle.ned_trees.specs.declared.connections.ConnectionGroup.{ConnectionGroup}
use Rattle.ned_trees.specs.declared.connections.ConnectionItem.{ConnectionItem}
use Rattle.ned_trees.specs.declared.connections.ConnectionItem.TheVariants as items
use Rattle.ned_trees.specs.declared.connections.ConnectionSection.{ConnectionSection}
use Rattle.ned_connections.specs.declared.ends.EndTail.{EndTail}
use Rattle.ned_connections.specs.declared.ends.EndTail.TheVariants as tails
use Rattle.ned_connections.specs.declared.channels.ChannelRest.{ChannelRest}
use Rattle.ned_connections.specs.declared.channels.DottedTail.{DottedTail}
use Rattle.ned_connections.specs.declared.channels.DottedTail.TheVariants as dots
use Rattle.ned_connections.specs.declared.channels.NameTail.{NameTail}
use Rattle.ned_connections.specs.declared.channels.NameTail.TheVariants as behind_name
use Rattle.ned_connections.specs.declared.channels.Behind.{Behind}
use Rattle.ned_connections.specs.Grammar.{word, bracketed_expression, body_block, max_blocks, half, index_at, index_next, gate_index, optional_index, gate_of, dotted_gate, indexed, halved, next_gate, gate_tail, end_tail, own, owned, end_of, end, arrow_mark, optional_block, last_end, rest_of, block_within, channel_rest, longer, dotted_half, dotted_index, dotted_tail, dotted_name, name_tail, straight, through, behind_dotted, behind_of, named_behind, block_behind, open_behind, behind_within, behind_arrow, arm, arms, connection, bounds, loop_clause, condition, clause, next_clause, clauses, optional_clauses, connection_line, group_block, closed_block, group, single, group_or_line, item_within, item, whole_item, allowance, connection_section, connections}
use Rattle.ned_expressions.specs.Spelling.{expression_tokens}
use Rattle.ned_read_back.specs.Declarations.{listed_tokens, bracket_tokens, refined_size_tokens, in_braces, half_tokens, index_tokens, end_gate_tokens, owned_tokens, end_tokens, block_tokens, channel_tokens, behind_tokens, connection_tokens, clause_tokens, next_clause_tokens, clauses_tokens, connection_line_tokens, item_tokens, allowance_tokens, written_tokens, section_there, connections_tokens}
use Rattle.ned_read_back.proofs.Spellable.{Each, IfThere, CanBeExpression, CanBeBodyLine, CanBeIndex, CanBeEndGate, CanBeOwner, CanBeEnd, ChannelHasRoom, CanBeChannel, CanBeConnection, CanBeClause, CanBeConnectionLine, CanBeClauses, CanBeItem, CanBeConnections}
use Rattle.ned_read_back.proofs.Spells.{Spells, one, then, mapped, before, after, this, that, some, nothing, each, a_word, a_mark, a_name, an_expression, a_size_value, a_body_section, no_semi}

-- a rule with its tokens named
closed : {X : Type 0} {starts goes_on : Token → Bool} {r : Rule X} {ts : List Token} {x : X} → Spells r ts x → Spells (sealed starts goes_on r) ts x
closed p = record { is = p.is }

-- nothing after it, where it is optional
alone : {X Y : Type 0} {a : Rule X} {ts : List Token} {x : X} (r : Rule Y) → Spells a ts x → Spells (a ⊗ optional r) ts (x, None)
alone {a = a} {ts = ts} {x = x} r p = subst (λ (us : List Token). Spells (a ⊗ optional r) us (x, None)) (append-nil ts) (then p (nothing r))

-- ---- gates

-- `$i` or `$o`
a_half : (h : Half) → Spells half (half_tokens (Some h)) h
unfolding half
a_half halves.Input = one (token.Mark m.InHalf) refl
a_half halves.Output = one (token.Mark m.OutHalf) refl

-- a half, where there is one
the_half : (h : Option Half) → Spells (optional half) (half_tokens h) h
the_half None = nothing half
the_half (Some h) = some (a_half h)

-- an expression in brackets
pub a_brackets : (e : Expression) → CanBeExpression e → Spells bracketed_expression (bracket_tokens e) e
unfolding bracketed_expression
a_brackets e h = before (a_mark m.LeftBracket) (a_size_value e h)

-- an index
an_index : (i : GateIndex) → CanBeIndex i → Spells gate_index (index_tokens (Some i)) i
unfolding gate_index index_at index_next
an_index (indices.At e) h = this index_next (mapped (a_brackets e h))
an_index indices.Next h = that index_at (mapped (a_mark m.PlusPlus))

-- an index, where there is one
the_index : (i : Option GateIndex) → IfThere CanBeIndex i → Spells optional_index (index_tokens i) i
unfolding optional_index
the_index None h = nothing gate_index
the_index (Some i) h = some (an_index i h)

-- a gate after a `.`
a_dotted_gate : (g : Gate) → CanBeEndGate g → Spells dotted_gate (token.Mark m.Dot ∷ end_gate_tokens g) g
unfolding dotted_gate
a_dotted_gate g h = before (a_mark m.Dot) (mapped (then (a_name g.name) (then (the_half g.half) (the_index g.index h.1))))

-- ---- what stands after the first name of an end

-- `[e]`
indexed_alone : (e : Expression) → CanBeExpression e → Spells gate_tail (bracket_tokens e) (tails.Indexed e None)
unfolding gate_tail indexed
indexed_alone e h = closed (this (either halved next_gate) (mapped (alone dotted_gate (a_brackets e h))))

-- `[e].gate`
indexed_gate : (e : Expression) (g : Gate) → CanBeExpression e → CanBeEndGate g → Spells gate_tail (bracket_tokens e ++ token.Mark m.Dot ∷ end_gate_tokens g) (tails.Indexed e (Some g))
unfolding gate_tail indexed
indexed_gate e g h k = closed (this (either halved next_gate) (mapped (then (a_brackets e h) (some (a_dotted_gate g k)))))

-- a half, perhaps with an index
half_tail : (h : Half) (i : Option GateIndex) → IfThere CanBeIndex i → Spells gate_tail (half_tokens (Some h) ++ index_tokens i) (tails.Halved h i)
unfolding gate_tail halved
half_tail h i is = closed (that indexed (this next_gate (mapped (then (a_half h) (the_index i is)))))

-- `++`
next_tail : Spells gate_tail (token.Mark m.PlusPlus ∷ []) tails.Next
unfolding gate_tail next_gate
next_tail = closed (that indexed (that halved (mapped (a_mark m.PlusPlus))))

-- ---- ends

-- an end that is a name
name_end : (text : List ℕ) → Spells end (token.Name text ∷ []) (end_of text None)
unfolding end
name_end text = closed (mapped (then (a_name text) (nothing end_tail)))

-- what stands after the first name of an end, but `.gate`
plain_tail : (ts : List Token) (t : EndTail) → Spells gate_tail ts t → Spells end_tail ts t
unfolding end_tail
plain_tail ts t p = closed (that (made tails.Dotted dotted_gate) p)

-- `.gate`
gate_behind : (g : Gate) → CanBeEndGate g → Spells end_tail (token.Mark m.Dot ∷ end_gate_tokens g) (tails.Dotted g)
unfolding end_tail
gate_behind g h = closed (this gate_tail (mapped (a_dotted_gate g h)))

-- an end with more after the name
end_with_tail : (text : List ℕ) (ts : List Token) (t : EndTail) → Spells end_tail ts t → Spells end (token.Name text ∷ ts) (end_of text (Some t))
unfolding end
end_with_tail text ts t p = closed (mapped (then (a_name text) (some p)))

-- an end with more after the name, but `.gate`
tail_end : (text : List ℕ) (ts : List Token) (t : EndTail) → Spells gate_tail ts t → Spells end (token.Name text ∷ ts) (end_of text (Some t))
tail_end text ts t p = end_with_tail text ts t (plain_tail ts t p)

-- a gate of a submodule that is no vector
dotted_end : (text : List ℕ) (g : Gate) → CanBeEndGate g → Spells end (token.Name text ∷ token.Mark m.Dot ∷ end_gate_tokens g) (owned text None g)
dotted_end text g h = end_with_tail text (token.Mark m.Dot ∷ end_gate_tokens g) (tails.Dotted g) (gate_behind g h)

-- a gate of the module itself
own_end : (text : List ℕ) (h : Option Half) (i : Option GateIndex) → IfThere CanBeIndex i → Spells end (token.Name text ∷ (half_tokens h ++ index_tokens i)) (own (gate_of text h i))
own_end text None None is = name_end text
own_end text None (Some (indices.At e)) is = tail_end text (bracket_tokens e) (tails.Indexed e None) (indexed_alone e is)
own_end text None (Some indices.Next) is = tail_end text (token.Mark m.PlusPlus ∷ []) tails.Next next_tail
own_end text (Some h) i is = tail_end text (half_tokens (Some h) ++ index_tokens i) (tails.Halved h i) (half_tail h i is)

-- a gate of a submodule
owned_end : (text : List ℕ) (i : Option Expression) (g : Gate) → IfThere CanBeExpression i → CanBeEndGate g → Spells end (token.Name text ∷ (refined_size_tokens i ++ token.Mark m.Dot ∷ end_gate_tokens g)) (owned text i g)
owned_end text None g h k = dotted_end text g k
owned_end text (Some e) g h k = tail_end text (bracket_tokens e ++ token.Mark m.Dot ∷ end_gate_tokens g) (tails.Indexed e (Some g)) (indexed_gate e g h k)

-- an end of these parts
abbrev end_with : Option Owner → Gate → End
end_with o g = record { owner = o; gate = g }

end_by : (o : Option Owner) (g : Gate) → IfThere CanBeOwner o → CanBeEndGate g → Spells end (owned_tokens o g) (end_with o g)
end_by None g h k = own_end g.name g.half g.index k.1
end_by (Some o) g h k = owned_end o.name o.index g h.1 k

-- an end
an_end : (e : End) → CanBeEnd e → Spells end (end_tokens e) e
an_end e h = end_by e.owner e.gate h.0 h.1

-- ---- channels

-- an arrow and the right end
a_last_end : (a : Arrow) (e : End) → CanBeEnd e → Spells (last_end a) (token.Mark (arrow_mark a) ∷ end_tokens e) e
unfolding last_end
a_last_end a e h = before (a_mark (arrow_mark a)) (an_end e h)

-- a block
a_block : (ls : List SectionLine) → Each CanBeBodyLine ls → Spells body_block (block_tokens ls) ls
a_block ls h = before (a_mark m.Open) (after (a_body_section ls h) (a_mark m.Close))

-- the block of a channel with a type, where it has lines
abbrev lines_tokens : List SectionLine → List Token
lines_tokens [] = []
lines_tokens (line ∷ ls) = block_tokens (line ∷ ls)

the_lines : (n : ℕ) (text : List ℕ) (ls : List SectionLine) → Each CanBeBodyLine ls → ChannelHasRoom n (Some text) ls → Spells (block_within n) (lines_tokens ls) ls
unfolding block_within optional_block
the_lines zero text [] h room = mapped (nothing (one_token never))
the_lines zero text (line ∷ ls) h room = let no = room.1 in absurd cc
the_lines (suc n) text [] h room = mapped (nothing body_block)
the_lines (suc n) text (line ∷ ls) h room = mapped (some (a_block (line ∷ ls) h))

-- what stands after the type of a channel
a_rest : (n : ℕ) (a : Arrow) (text : List ℕ) (ls : List SectionLine) (e : End) → Each CanBeBodyLine ls → ChannelHasRoom n (Some text) ls → CanBeEnd e → Spells (channel_rest n a) (lines_tokens ls ++ token.Mark (arrow_mark a) ∷ end_tokens e) (rest_of ls e)
unfolding channel_rest
a_rest n a text ls e h room k = closed (mapped (then (the_lines n text ls h room) (a_last_end a e k)))

-- more after a name
with_tail : (n : ℕ) (a : Arrow) (text : List ℕ) (ts : List Token) (t : NameTail) → Spells (name_tail n a) ts t → Spells (named_behind n a) (token.Name text ∷ ts) (behind_of text (Some t))
unfolding named_behind
with_tail n a text ts t p = mapped (then (a_name text) (some p))

-- what stands after the type of a channel
channel_tail : (n : ℕ) (a : Arrow) (ts : List Token) (r : ChannelRest) → Spells (channel_rest n a) ts r → Spells (name_tail n a) ts (behind_name.Channel r)
unfolding name_tail
channel_tail n a ts r p = closed (that (made behind_name.End gate_tail) (that (dotted_name n a) (mapped p)))

-- a channel by its type
named_channel : (n : ℕ) (a : Arrow) (text : List ℕ) (ls : List SectionLine) (e : End) → Each CanBeBodyLine ls → ChannelHasRoom n (Some text) ls → CanBeEnd e → Spells (named_behind n a) (token.Name text ∷ (lines_tokens ls ++ token.Mark (arrow_mark a) ∷ end_tokens e)) (through (Some text) (rest_of ls e))
named_channel n a text ls e h room k =
    let ts = lines_tokens ls ++ token.Mark (arrow_mark a) ∷ end_tokens e in
    with_tail n a text ts (behind_name.Channel (rest_of ls e)) (channel_tail n a ts (rest_of ls e) (a_rest n a text ls e h room k))

-- a channel's tokens, with its block or without
channel_written : (n : ℕ) (a : Arrow) (text : List ℕ) (ls : List SectionLine) (e : End) → Each CanBeBodyLine ls → ChannelHasRoom n (Some text) ls → CanBeEnd e → Spells (named_behind n a) (channel_tokens (Some text) ls ++ token.Mark (arrow_mark a) ∷ end_tokens e) (through (Some text) (rest_of ls e))
channel_written n a text [] e h room k = named_channel n a text [] e h room k
channel_written n a text (line ∷ ls) e h room k = named_channel n a text (line ∷ ls) e h room k

-- ---- an end after an arrow

-- a name
name_behind : (n : ℕ) (a : Arrow) (text : List ℕ) → Spells (named_behind n a) (token.Name text ∷ []) (straight (end_of text None))
unfolding named_behind
name_behind n a text = mapped (then (a_name text) (nothing (name_tail n a)))

-- more of an end, but `.gate`
end_behind : (n : ℕ) (a : Arrow) (ts : List Token) (t : EndTail) → Spells gate_tail ts t → Spells (name_tail n a) ts (behind_name.End t)
unfolding name_tail
end_behind n a ts t p = closed (this (either (dotted_name n a) (made behind_name.Channel (channel_rest n a))) (mapped p))

tail_behind : (n : ℕ) (a : Arrow) (text : List ℕ) (ts : List Token) (t : EndTail) → Spells gate_tail ts t → Spells (named_behind n a) (token.Name text ∷ ts) (straight (end_of text (Some t)))
tail_behind n a text ts t p = with_tail n a text ts (behind_name.End t) (end_behind n a ts t p)

-- a second name, and more
second_behind : (n : ℕ) (a : Arrow) (other : List ℕ) (ts : List Token) (t : Option DottedTail) → Spells (optional (dotted_tail n a)) ts t → Spells (name_tail n a) (token.Mark m.Dot ∷ token.Name other ∷ ts) (behind_name.Dotted other t)
unfolding name_tail dotted_name
second_behind n a other ts t p = closed (that (made behind_name.End gate_tail) (this (made behind_name.Channel (channel_rest n a)) (mapped (then (before (a_mark m.Dot) (a_name other)) p))))

dots_behind : (n : ℕ) (a : Arrow) (text other : List ℕ) (ts : List Token) (t : Option DottedTail) → Spells (optional (dotted_tail n a)) ts t → Spells (named_behind n a) (token.Name text ∷ token.Mark m.Dot ∷ token.Name other ∷ ts) (behind_dotted text other t)
dots_behind n a text other ts t p = with_tail n a text (token.Mark m.Dot ∷ token.Name other ∷ ts) (behind_name.Dotted other t) (second_behind n a other ts t p)

-- an index after two names
index_dots : (n : ℕ) (a : Arrow) (i : GateIndex) → CanBeIndex i → Spells (dotted_tail n a) (index_tokens (Some i)) (dots.Gate None (Some i))
unfolding dotted_tail dotted_index
index_dots n a i is = closed (that dotted_half (this (either (longer n a) (made dots.Channel (channel_rest n a))) (mapped (an_index i is))))

-- a half after two names, perhaps with an index
half_dots : (n : ℕ) (a : Arrow) (h : Half) (i : Option GateIndex) → IfThere CanBeIndex i → Spells (dotted_tail n a) (half_tokens (Some h) ++ index_tokens i) (dots.Gate (Some h) i)
unfolding dotted_tail dotted_half
half_dots n a h i is = closed (this (either dotted_index (either (longer n a) (made dots.Channel (channel_rest n a)))) (mapped (then (a_half h) (the_index i is))))

-- a half, an index, both or none of them after two names
gate_dots : (n : ℕ) (a : Arrow) (text other : List ℕ) (h : Option Half) (i : Option GateIndex) → IfThere CanBeIndex i → Spells (named_behind n a) (token.Name text ∷ token.Mark m.Dot ∷ token.Name other ∷ (half_tokens h ++ index_tokens i)) (straight (owned text None (gate_of other h i)))
gate_dots n a text other None None is = dots_behind n a text other [] None (nothing (dotted_tail n a))
gate_dots n a text other None (Some i) is = dots_behind n a text other (index_tokens (Some i)) (Some (dots.Gate None (Some i))) (some (index_dots n a i is))
gate_dots n a text other (Some h) i is = dots_behind n a text other (half_tokens (Some h) ++ index_tokens i) (Some (dots.Gate (Some h) i)) (some (half_dots n a h i is))

own_behind : (n : ℕ) (a : Arrow) (text : List ℕ) (h : Option Half) (i : Option GateIndex) → IfThere CanBeIndex i → Spells (named_behind n a) (token.Name text ∷ (half_tokens h ++ index_tokens i)) (straight (own (gate_of text h i)))
own_behind n a text None None is = name_behind n a text
own_behind n a text None (Some (indices.At e)) is = tail_behind n a text (bracket_tokens e) (tails.Indexed e None) (indexed_alone e is)
own_behind n a text None (Some indices.Next) is = tail_behind n a text (token.Mark m.PlusPlus ∷ []) tails.Next next_tail
own_behind n a text (Some h) i is = tail_behind n a text (half_tokens (Some h) ++ index_tokens i) (tails.Halved h i) (half_tail h i is)

owned_behind : (n : ℕ) (a : Arrow) (text : List ℕ) (i : Option Expression) (g : Gate) → IfThere CanBeExpression i → CanBeEndGate g → Spells (named_behind n a) (token.Name text ∷ (refined_size_tokens i ++ token.Mark m.Dot ∷ end_gate_tokens g)) (straight (owned text i g))
owned_behind n a text None g h k = gate_dots n a text g.name g.half g.index k.1
owned_behind n a text (Some e) g h k = tail_behind n a text (bracket_tokens e ++ token.Mark m.Dot ∷ end_gate_tokens g) (tails.Indexed e (Some g)) (indexed_gate e g h k)

straight_by : (n : ℕ) (a : Arrow) (o : Option Owner) (g : Gate) → IfThere CanBeOwner o → CanBeEndGate g → Spells (named_behind n a) (owned_tokens o g) (straight (end_with o g))
straight_by n a None g h k = own_behind n a g.name g.half g.index k.1
straight_by n a (Some o) g h k = owned_behind n a o.name o.index g h.1 k

-- ---- what stands after the first arrow

-- what begins with a name
by_name : (n : ℕ) (a : Arrow) (ts : List Token) (b : Behind) → Spells (named_behind n a) ts b → Spells (behind_arrow n a) ts b
unfolding behind_arrow behind_within open_behind
by_name zero a ts b p = closed p
by_name (suc n) a ts b p = closed (that (block_behind a) p)

-- a channel without a type
block_channel : (n : ℕ) (a : Arrow) (ls : List SectionLine) (e : End) → Each CanBeBodyLine ls → CanBeEnd e → Spells (behind_arrow (suc n) a) (block_tokens ls ++ token.Mark (arrow_mark a) ∷ end_tokens e) (through None (rest_of ls e))
unfolding behind_arrow behind_within open_behind block_behind
block_channel n a ls e h k = closed (this (named_behind (suc n) a) (mapped (then (a_block ls h) (a_last_end a e k))))

-- what stands there
abbrev behind_with : Option Channel → End → Behind
behind_with c e = record { channel = c; end = e }

channel_by : (n : ℕ) (a : Arrow) (text : Option (List ℕ)) (ls : List SectionLine) (e : End) → Each CanBeBodyLine ls → ChannelHasRoom n text ls → CanBeEnd e → Spells (behind_arrow n a) (channel_tokens text ls ++ token.Mark (arrow_mark a) ∷ end_tokens e) (through text (rest_of ls e))
channel_by zero a None ls e h room k = absurd (false≢true room.0)
channel_by (suc n) a None ls e h room k = block_channel n a ls e h k
channel_by n a (Some text) ls e h room k = by_name n a (channel_tokens (Some text) ls ++ token.Mark (arrow_mark a) ∷ end_tokens e) (through (Some text) (rest_of ls e)) (channel_written n a text ls e h room k)

a_behind : (n : ℕ) (a : Arrow) (c : Option Channel) (e : End) → IfThere (CanBeChannel n) c → CanBeEnd e → Spells (behind_arrow n a) (behind_tokens a c e) (behind_with c e)
a_behind n a None e h k = by_name n a (end_tokens e) (straight e) (straight_by n a e.owner e.gate k.0 k.1)
a_behind n a (Some c) e h k = channel_by n a c.type_name c.lines e h.1 h.2 k

-- ---- connections

-- an arrow, and what stands after it
an_arm : (n : ℕ) (a : Arrow) (ts : List Token) (b : Behind) → Spells (behind_arrow n a) ts b → Spells (arm n a) (token.Mark (arrow_mark a) ∷ ts) (a, b)
unfolding arm
an_arm n a ts b p = mapped (before (a_mark (arrow_mark a)) p)

the_arms : (n : ℕ) (a : Arrow) (ts : List Token) (b : Behind) → Spells (arm n a) ts (a, b) → Spells (arms n) ts (a, b)
unfolding arms
the_arms n arrows.Right ts b p = this (either (arm n arrows.Left) (arm n arrows.Both)) p
the_arms n arrows.Left ts b p = that (arm n arrows.Right) (this (arm n arrows.Both) p)
the_arms n arrows.Both ts b p = that (arm n arrows.Right) (that (arm n arrows.Left) p)

-- a connection
a_connection : (n : ℕ) (c : Connection) → CanBeConnection n c → Spells (connection n) (connection_tokens c) c
unfolding connection
a_connection n c h =
    let behind_is = a_behind n c.arrow c.channel c.right h.1 h.2 in
    let arm_is = an_arm n c.arrow (behind_tokens c.arrow c.channel c.right) (behind_with c.channel c.right) behind_is in
    closed (mapped (then (an_end c.left h.0) (the_arms n c.arrow (token.Mark (arrow_mark c.arrow) ∷ behind_tokens c.arrow c.channel c.right) (behind_with c.channel c.right) arm_is)))

-- ---- loops and conditions

-- a condition
pub a_condition : (e : Expression) → CanBeExpression e → Spells condition (token.Word k.If ∷ expression_tokens e) e
unfolding condition
a_condition e h = before (a_word k.If) (an_expression e h)

-- a loop or a condition
a_clause : (c : Clause) → CanBeClause c → Spells clause (clause_tokens c) c
unfolding clause loop_clause bounds
a_clause (clauses_are.For l) h = this (made clauses_are.If condition) (mapped (before (a_word k.For) (then (a_name l.variable) (before (a_mark m.Equals) (then (an_expression l.first h.1) (before (a_mark m.DotDot) (an_expression l.last h.2)))))))
a_clause (clauses_are.If e) h = that loop_clause (mapped (a_condition e h))

-- one after a comma
a_next_clause : (c : Clause) → CanBeClause c → Spells next_clause (next_clause_tokens c) c
unfolding next_clause
a_next_clause c h = before (a_mark m.Comma) (a_clause c h)

-- at least one
the_clauses : (c : Clause) (cs : List Clause) → CanBeClause c → Each CanBeClause cs → Spells clauses (clauses_tokens (c ∷ cs)) (c ∷ cs)
unfolding clauses
the_clauses c cs h all = mapped (then (a_clause c h) (each next_clause next_clause_tokens CanBeClause a_next_clause cs all))

-- any number
any_clauses : (cs : List Clause) → Each CanBeClause cs → Spells optional_clauses (clauses_tokens cs) cs
unfolding optional_clauses
any_clauses [] all = mapped (nothing clauses)
any_clauses (c ∷ cs) all = mapped (some (the_clauses c cs all.0 all.1))

-- ---- items

-- a connection with its loops and conditions
a_connection_line : (n : ℕ) (l : ConnectionLine) → CanBeConnectionLine n l → Spells (connection_line n) (connection_line_tokens l) l
unfolding connection_line
a_connection_line n l h = mapped (after (then (a_connection n l.connection h.0) (any_clauses l.clauses h.1)) (a_mark m.Semi))

-- connections in braces
a_group_block : (n : ℕ) (ls : List ConnectionLine) → Each (CanBeConnectionLine n) ls → Spells (closed_block n) (in_braces (listed_tokens connection_line_tokens ls)) ls
unfolding closed_block group_block
a_group_block n ls h = subst (λ (ts : List Token). Spells (closed_block n) ts ls) (append-nil (in_braces (listed_tokens connection_line_tokens ls))) (after (before (a_mark m.Open) (after (each (connection_line n) connection_line_tokens (CanBeConnectionLine n) (a_connection_line n) ls h) (a_mark m.Close))) no_semi)

-- a group of these parts
abbrev group_with : List Clause → List ConnectionLine → ConnectionGroup
group_with cs ls = record { clauses = cs; lines = ls }

a_group : (n : ℕ) (cs : List Clause) (ls : List ConnectionLine) → CanBeClauses cs → Each (CanBeConnectionLine n) ls → Spells (group n) (clauses_tokens cs ++ in_braces (listed_tokens connection_line_tokens ls)) (group_with cs ls)
unfolding group
a_group n [] ls h all = absurd h
a_group n (c ∷ cs) ls h all = mapped (then (the_clauses c cs h.0 h.1) (a_group_block n ls all))

an_item_within : (n : ℕ) (i : ConnectionItem) → CanBeItem n i → Spells (item_within n) (item_tokens i) i
unfolding item_within group_or_line
an_item_within zero (items.Line l) h = mapped (a_connection_line zero l h)
an_item_within zero (items.Group g) h = absurd h
an_item_within (suc n) (items.Line l) h = that (made items.Group (group n)) (mapped (a_connection_line (suc n) l h))
an_item_within (suc n) (items.Group g) h = this (single (suc n)) (mapped (a_group n g.clauses g.lines h.0 h.1))

-- an item
an_item : (n : ℕ) (i : ConnectionItem) → CanBeItem n i → Spells (item n) (item_tokens i) i
unfolding item
an_item n i h = closed (an_item_within n i h)

-- the standard tokens of an item spell it
pub item_is : (i : ConnectionItem) → CanBeItem max_blocks i → whole_item.Is (item_tokens i) i
unfolding whole_item
item_is i h = (an_item max_blocks i h).is

-- ---- sections

-- `allowunconnected`, where it is said
an_allowance : (b : Bool) → Spells allowance (allowance_tokens b) b
unfolding allowance
an_allowance true = mapped (some (a_word k.AllowUnconnected))
an_allowance false = mapped (nothing (word k.AllowUnconnected))

-- a section of these parts
abbrev section_with : Bool → List ConnectionItem → ConnectionSection
section_with b is = record { allow_unconnected = b; items = is }

a_section_of : (n : ℕ) (b : Bool) (is : List ConnectionItem) → Each (CanBeItem n) is → Spells (connection_section n) (written_tokens (section_with b is)) (section_with b is)
unfolding connection_section
a_section_of n b is h = mapped (before (a_word k.Connections) (then (an_allowance b) (before (a_mark m.Colon) (each (item n) item_tokens (CanBeItem n) (an_item n) is h))))

section_by : (n : ℕ) (b : Bool) (is : List ConnectionItem) → Each (CanBeItem n) is → Spells (connections n) (section_there b is (written_tokens (section_with b is))) (section_with b is)
unfolding connections
section_by n false [] h = mapped (nothing (connection_section n))
section_by n false (i ∷ is) h = mapped (some (a_section_of n false (i ∷ is) h))
section_by n true is h = mapped (some (a_section_of n true is h))

-- the connections of a type
pub the_connections : (n : ℕ) (s : ConnectionSection) → CanBeConnections n s → Spells (connections n) (connections_tokens s) s
the_connections n s h = section_by n s.allow_unconnected s.items h
