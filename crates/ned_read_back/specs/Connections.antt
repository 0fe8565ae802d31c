-- The standard spelling of connections: the tokens that say them.
use Rattle.std.specs.Prelude.{ℕ, Bool, true, false, List, [], ◌∷◌, ◌++◌, Option, Some, None}
use Rattle.ned_tokens.specs.declared.token.Keyword.TheVariants as k
use Rattle.ned_tokens.specs.declared.token.Mark.{Mark}
use Rattle.ned_tokens.specs.declared.token.Mark.TheVariants as m
use Rattle.ned_tokens.specs.declared.token.Token.{Token}
use Rattle.ned_tokens.specs.declared.token.Token.TheVariants as token
use Rattle.ned_trees.specs.declared.declarations.SectionLine.{SectionLine}
use Rattle.ned_trees.specs.declared.connections.Arrow.{Arrow}
use Rattle.ned_trees.specs.declared.connections.Half.{Half}
use Rattle.ned_trees.specs.declared.connections.Half.TheVariants as halves
use Rattle.ned_trees.specs.declared.connections.GateIndex.{GateIndex}
use Rattle.ned_trees.specs.declared.connections.GateIndex.TheVariants as indices
use Rattle.ned_trees.specs.declared.connections.Gate.{Gate}
use Rattle.ned_trees.specs.declared.connections.Owner.{Owner}
use Rattle.ned_trees.specs.declared.connections.End.{End}
use Rattle.ned_trees.specs.declared.connections.Channel.{Channel}
use Rattle.ned_trees.specs.declared.connections.Connection.{Connection}
use Rattle.ned_trees.specs.declared.connections.Clause.{Clause}
use Rattle.ned_trees.specs.declared.connections.Clause.TheVariants as clauses_are
use Rattle.ned_trees.specs.declared.connections.ConnectionLine.{ConnectionLine}
use Rattle.ned_trees.specs.declared.connections.ConnectionItem.{ConnectionItem}
use Rattle.ned_trees.specs.declared.connections.ConnectionItem.TheVariants as items
use Rattle.ned_trees.specs.declared.connections.ConnectionSection.{ConnectionSection}
use Rattle.ned_connections.specs.Grammar.{arrow_mark}
use Rattle.ned_expressions.specs.Spelling.{expression_tokens}
use Rattle.ned_read_back.specs.Sections.{listed_tokens, section_tokens, bracket_tokens}
use Rattle.ned_read_back.specs.Sections.{refined_size_tokens, in_braces}

-- `$i` or `$o`, where it is a half
abbrev pub half_tokens : Option Half → List Token
half_tokens None = []
half_tokens (Some halves.Input) = token.Mark m.InHalf ∷ []
half_tokens (Some halves.Output) = token.Mark m.OutHalf ∷ []

-- `[..]` or `++`, where it is a gate of a vector
abbrev pub index_tokens : Option GateIndex → List Token
index_tokens None = []
index_tokens (Some (indices.At e)) = bracket_tokens e
index_tokens (Some indices.Next) = token.Mark m.PlusPlus ∷ []

-- name [half] [index]
abbrev pub end_gate_tokens : Gate → List Token
end_gate_tokens g = token.Name g.name ∷ (half_tokens g.half ++ index_tokens g.index)

-- the gate of a submodule, or of the module itself
abbrev pub owned_tokens : Option Owner → Gate → List Token
owned_tokens None g = end_gate_tokens g
owned_tokens (Some o) g =
    token.Name o.name ∷ (refined_size_tokens o.index ++ token.Mark m.Dot ∷ end_gate_tokens g)

-- an end
abbrev pub end_tokens : End → List Token
end_tokens e = owned_tokens e.owner e.gate

-- the block of a channel
abbrev pub block_tokens : List SectionLine → List Token
block_tokens ls = in_braces (section_tokens ls)

-- A channel without a type has its block, one with a type where the block has lines.
abbrev pub channel_tokens : Option (List ℕ) → List SectionLine → List Token
channel_tokens None ls = block_tokens ls
channel_tokens (Some text) [] = token.Name text ∷ []
channel_tokens (Some text) (line ∷ ls) = token.Name text ∷ block_tokens (line ∷ ls)

-- [channel arrow] end
abbrev pub behind_tokens : Arrow → Option Channel → End → List Token
behind_tokens a None e = end_tokens e
behind_tokens a (Some c) e =
    channel_tokens c.type_name c.lines ++ token.Mark (arrow_mark a) ∷ end_tokens e

-- end arrow [channel arrow] end
abbrev pub connection_tokens : Connection → List Token
connection_tokens c =
    end_tokens c.left ++ token.Mark (arrow_mark c.arrow) ∷ behind_tokens c.arrow c.channel c.right

-- a loop or a condition
abbrev pub clause_tokens : Clause → List Token
clause_tokens (clauses_are.For l) = token.Word k.For ∷ token.Name l.variable ∷ token.Mark m.Equals
    ∷ (expression_tokens l.first ++ token.Mark m.DotDot ∷ expression_tokens l.last)
clause_tokens (clauses_are.If e) = token.Word k.If ∷ expression_tokens e

-- "," clause
abbrev pub next_clause_tokens : Clause → List Token
next_clause_tokens c = token.Mark m.Comma ∷ clause_tokens c

-- loops and conditions, where there are some
abbrev pub clauses_tokens : List Clause → List Token
clauses_tokens [] = []
clauses_tokens (c ∷ cs) = clause_tokens c ++ listed_tokens next_clause_tokens cs

-- connection [clauses] ";"
abbrev pub connection_line_tokens : ConnectionLine → List Token
connection_line_tokens l =
    (connection_tokens l.connection ++ clauses_tokens l.clauses) ++ token.Mark m.Semi ∷ []

-- an item
abbrev pub item_tokens : ConnectionItem → List Token
item_tokens (items.Line l) = connection_line_tokens l
item_tokens (items.Group g) =
    clauses_tokens g.clauses ++ in_braces (listed_tokens connection_line_tokens g.lines)

-- `allowunconnected`, where gates may stay unconnected
abbrev pub allowance_tokens : Bool → List Token
allowance_tokens true = token.Word k.AllowUnconnected ∷ []
allowance_tokens false = []

-- "connections" ["allowunconnected"] ":" { item }
abbrev pub written_tokens : ConnectionSection → List Token
written_tokens s = token.Word k.Connections ∷ (allowance_tokens s.allow_unconnected
    ++ token.Mark m.Colon ∷ listed_tokens item_tokens s.items)

-- A section that says what none says is not written.
abbrev pub section_there : Bool → List ConnectionItem → List Token → List Token
section_there false [] ts = []
section_there false (i ∷ is) ts = ts
section_there true is ts = ts

-- the connections of a type
abbrev pub connections_tokens : ConnectionSection → List Token
connections_tokens s = section_there s.allow_unconnected s.items (written_tokens s)
