-- What a text can declare.
use Rattle.std.proofs.Common.{◌≡◌, ℕ, zero, suc, true, List, [], ◌∷◌, Option, Some, None}
use Rattle.std.specs.Prelude.{is_some}
use Rattle.sim_values.specs.declared.value.Dimension.{Dimension}
use Rattle.ned_read_back.specs.Tokens.{IsName, HaveSpelling}
use Rattle.ned_trees.specs.declared.expressions.Expression.{Expression}
use Rattle.ned_expressions.specs.Grammar.{expression, angle_expression}
use Rattle.ned_expressions.specs.Spelling.{expression_tokens}
use Rattle.ned_trees.specs.declared.declarations.ParameterValue.{ParameterValue}
use Rattle.ned_trees.specs.declared.declarations.ParameterValue.TheVariants as given
use Rattle.ned_trees.specs.declared.declarations.ParameterWord.{ParameterWord}
use Rattle.ned_trees.specs.declared.declarations.ParameterWord.TheVariants as words
use Rattle.ned_trees.specs.declared.declarations.Declaration.{Declaration}
use Rattle.ned_trees.specs.declared.declarations.Assignment.{Assignment}
use Rattle.ned_trees.specs.declared.declarations.Statistic.{Statistic}
use Rattle.ned_trees.specs.declared.declarations.SectionLine.{SectionLine}
use Rattle.ned_trees.specs.declared.declarations.SectionLine.TheVariants as lines
use Rattle.ned_trees.specs.declared.declarations.Submodule.{Submodule}
use Rattle.ned_trees.specs.declared.declarations.SubmoduleBody.{SubmoduleBody}
use Rattle.ned_trees.specs.declared.declarations.SubmoduleType.{SubmoduleType}
use Rattle.ned_trees.specs.declared.declarations.SubmoduleType.TheVariants as types_are
use Rattle.ned_trees.specs.declared.connections.GateIndex.{GateIndex}
use Rattle.ned_trees.specs.declared.connections.GateIndex.TheVariants as indices
use Rattle.ned_trees.specs.declared.connections.Gate.{Gate}
use Rattle.ned_trees.specs.declared.connections.Owner.{Owner}
use Rattle.ned_trees.specs.declared.connections.End.{End}
use Rattle.ned_trees.specs.declared.connections.Channel.{Channel}
use Rattle.ned_trees.specs.declared.connections.Connection.{Connection}
use Rattle.ned_trees.specs.declared.connections.Clause.{Clause}
use Rattle.ned_trees.specs.declared.connections.Clause.TheVariants as clauses_are
use Rattle.ned_trees.specs.declared.connections.ConnectionLine.{ConnectionLine}
use Rattle.ned_trees.specs.declared.connections.ConnectionGroup.{ConnectionGroup}
use Rattle.ned_trees.specs.declared.connections.ConnectionItem.{ConnectionItem}
use Rattle.ned_trees.specs.declared.connections.ConnectionItem.TheVariants as items
use Rattle.ned_trees.specs.declared.connections.ConnectionSection.{ConnectionSection}
use Rattle.ned_trees.specs.declared.declarations.GateSize.{GateSize}
use Rattle.ned_trees.specs.declared.declarations.GateSize.TheVariants as sizes
use Rattle.ned_trees.specs.declared.declarations.GateLine.{GateLine}
use Rattle.ned_trees.specs.declared.declarations.GateLine.TheVariants as gate_lines
use Rattle.ned_trees.specs.declared.declarations.TypeKind.{TypeKind}
use Rattle.ned_trees.specs.declared.declarations.TypeKind.TheVariants as kinds
use Rattle.ned_trees.specs.declared.declarations.TypeDeclaration.{TypeDeclaration}
use Rattle.ned_trees.specs.declared.declarations.NestedType.{NestedType, out-NestedType}
use Rattle.ned_trees.specs.declared.declarations.NestedType.TheOpen.{NestedType-F}
use Rattle.ned_trees.specs.declared.declarations.NedFile.{NedFile}
use Rattle.ned_connections.specs.Grammar.{no_connections}
use Rattle.ned_syntax.specs.Grammar.{max_blocks}

-- P holds of each
abbrev pub Each : {X : Type 0} → (X → Type 0) → List X → Type 0
Each P [] = Unit {0}
Each P (x ∷ xs) = P x × Each P xs

-- P holds where there is one
abbrev pub IfThere : {X : Type 0} → (X → Type 0) → Option X → Type 0
IfThere P None = Unit {0}
IfThere P (Some x) = P x

-- An expression whose tokens have a spelling and say it.
pub record CanBeExpression (e : Expression) : Type 0 where
  pub spelled : HaveSpelling (expression_tokens e)
  pub is : expression.Is (expression_tokens e) e

-- the value, or `default(..)`
abbrev pub CanBeGiven : ParameterValue → Type 0
CanBeGiven (given.Fixed e) = CanBeExpression e
CanBeGiven (given.Default e) = CanBeExpression e

-- the unit of a parameter of this word
abbrev pub CanBeUnit : ParameterWord → Option Dimension → Type 0
CanBeUnit words.Bool unit = unit ≡ None
CanBeUnit words.Int unit = Unit {0}
CanBeUnit words.Text unit = unit ≡ None
CanBeUnit words.Double unit = is_some unit ≡ true

-- a name, a unit that fits the word, and a value
abbrev pub CanBeDeclaration : Declaration → Type 0
CanBeDeclaration d = IsName d.name × CanBeUnit d.word d.unit × IfThere CanBeGiven d.value

-- a name and a value
abbrev pub CanBeAssignment : Assignment → Type 0
CanBeAssignment a = IsName a.name × IfThere CanBeGiven a.value

-- a name and a source
abbrev pub CanBeStatistic : Statistic → Type 0
CanBeStatistic s = IsName s.name × IsName s.source

-- a line of each kind
abbrev pub CanBeLine : SectionLine → Type 0
CanBeLine (lines.Declaration d) = CanBeDeclaration d
CanBeLine (lines.Assignment a) = CanBeAssignment a
CanBeLine (lines.Statistic s) = CanBeStatistic s
CanBeLine (lines.Class text) = IsName text
CanBeLine lines.Ignored = Unit {0}

-- A body has no statistics and no class.
abbrev pub CanBeBodyLine : SectionLine → Type 0
CanBeBodyLine (lines.Declaration d) = CanBeDeclaration d
CanBeBodyLine (lines.Assignment a) = CanBeAssignment a
CanBeBodyLine (lines.Statistic s) = ⊥
CanBeBodyLine (lines.Class text) = ⊥
CanBeBodyLine lines.Ignored = Unit {0}

-- a size, where the gate is a vector of one
abbrev pub CanBeSize : GateSize → Type 0
CanBeSize (sizes.Sized e) = CanBeExpression e
CanBeSize _ = Unit {0}

-- a name and a size
abbrev pub CanBeGate : GateLine → Type 0
CanBeGate (gate_lines.Declaration g) = IsName g.name × CanBeSize g.size
CanBeGate (gate_lines.Refinement g) = IsName g.name × IfThere CanBeExpression g.size

-- An expression for angles whose tokens have a spelling and say it.
pub record CanBeAngle (e : Expression) : Type 0 where
  pub spelled : HaveSpelling (expression_tokens e)
  pub is : angle_expression.Is (expression_tokens e) e

-- the value between angles
abbrev pub CanBeAngles : ParameterValue → Type 0
CanBeAngles (given.Fixed e) = CanBeAngle e
CanBeAngles (given.Default e) = CanBeExpression e

-- ---- connections

-- an index in brackets
abbrev pub CanBeIndex : GateIndex → Type 0
CanBeIndex (indices.At e) = CanBeExpression e
CanBeIndex indices.Next = Unit {0}

-- a name and an index
abbrev pub CanBeEndGate : Gate → Type 0
CanBeEndGate g = IsName g.name × IfThere CanBeIndex g.index

-- a name and an index
abbrev pub CanBeOwner : Owner → Type 0
CanBeOwner o = IsName o.name × IfThere CanBeExpression o.index

-- a gate, of a submodule or not
abbrev pub CanBeEnd : End → Type 0
CanBeEnd e = IfThere CanBeOwner e.owner × CanBeEndGate e.gate

-- Where n more blocks may be open at once a channel has a block only if n is not zero.
abbrev pub ChannelHasRoom : ℕ → Option (List ℕ) → List SectionLine → Type 0
ChannelHasRoom zero text ls = (is_some text ≡ true) × (ls ≡ [])
ChannelHasRoom (suc n) text ls = Unit {0}

-- a name, lines of a body, and room for them
abbrev pub CanBeChannel : ℕ → Channel → Type 0
CanBeChannel n c = IfThere IsName c.type_name × Each CanBeBodyLine c.lines × ChannelHasRoom n c.type_name c.lines

-- two ends and a channel
abbrev pub CanBeConnection : ℕ → Connection → Type 0
CanBeConnection n c = CanBeEnd c.left × IfThere (CanBeChannel n) c.channel × CanBeEnd c.right

-- a loop or a condition
abbrev pub CanBeClause : Clause → Type 0
CanBeClause (clauses_are.For l) = IsName l.variable × CanBeExpression l.first × CanBeExpression l.last
CanBeClause (clauses_are.If e) = CanBeExpression e

-- a connection, with loops and conditions
abbrev pub CanBeConnectionLine : ℕ → ConnectionLine → Type 0
CanBeConnectionLine n l = CanBeConnection n l.connection × Each CanBeClause l.clauses

-- at least one loop or condition
abbrev pub CanBeClauses : List Clause → Type 0
CanBeClauses [] = ⊥
CanBeClauses (c ∷ cs) = CanBeClause c × Each CanBeClause cs

-- connections with loops and conditions in common, which stand in a block
abbrev pub CanBeGroup : ℕ → ConnectionGroup → Type 0
CanBeGroup zero g = ⊥
CanBeGroup (suc n) g = CanBeClauses g.clauses × Each (CanBeConnectionLine n) g.lines

-- an item
abbrev pub CanBeItem : ℕ → ConnectionItem → Type 0
CanBeItem n (items.Line l) = CanBeConnectionLine n l
CanBeItem n (items.Group g) = CanBeGroup n g

-- items
abbrev pub CanBeConnections : ℕ → ConnectionSection → Type 0
CanBeConnections n s = Each (CanBeItem n) s.items

-- ---- types

-- Where n more blocks may be open at once a body has lines and gates only if n is not zero.
abbrev pub HasRoom : ℕ → List SectionLine → List GateLine → Type 0
HasRoom zero ls gs = (ls ≡ []) × (gs ≡ [])
HasRoom (suc n) ls gs = Unit {0}

-- lines and gates that have room
abbrev pub CanBeBody : ℕ → SubmoduleBody → Type 0
CanBeBody n b = Each CanBeBodyLine b.lines × Each CanBeGate b.gates × HasRoom n b.lines b.gates

-- a name, or a value and a name
abbrev pub CanBeSubmoduleType : SubmoduleType → Type 0
CanBeSubmoduleType (types_are.Named text) = IsName text
CanBeSubmoduleType (types_are.Like t) = IfThere CanBeAngles t.given × IsName t.interface

-- a name, a size, a type, a condition, and a body that has room
abbrev pub CanBeSubmodule : ℕ → Submodule → Type 0
CanBeSubmodule n s = IsName s.name × IfThere CanBeExpression s.size × CanBeSubmoduleType s.submodule_type × IfThere CanBeExpression s.condition × CanBeBody n s.body

-- An interface has no base of its own, no submodules and no connections.
abbrev pub CanBeInterface : TypeDeclaration → Type 0
CanBeInterface d = Each IsName d.interfaces × Each CanBeLine d.lines × Each CanBeGate d.gates × (d.base ≡ None) × (d.submodules ≡ []) × (d.connections ≡ no_connections)

-- a module or a network
abbrev pub CanBeCompound : ℕ → TypeDeclaration → Type 0
CanBeCompound n d = IfThere IsName d.base × Each IsName d.interfaces × Each CanBeLine d.lines × Each CanBeGate d.gates × Each (CanBeSubmodule n) d.submodules × CanBeConnections n d.connections

-- A simple module has no submodules and no connections, a channel no gates either. Within its block
-- n more may be open at once.
abbrev pub CanBeParts : ℕ → TypeKind → TypeDeclaration → Type 0
CanBeParts n kinds.Simple d = IfThere IsName d.base × Each IsName d.interfaces × Each CanBeLine d.lines × Each CanBeGate d.gates × (d.submodules ≡ []) × (d.connections ≡ no_connections)
CanBeParts n kinds.Module d = CanBeCompound n d
CanBeParts n kinds.Network d = CanBeCompound n d
CanBeParts n kinds.Channel d = IfThere IsName d.base × Each IsName d.interfaces × Each CanBeLine d.lines × (d.gates ≡ []) × (d.submodules ≡ []) × (d.connections ≡ no_connections)
CanBeParts n kinds.ModuleInterface d = CanBeInterface d
CanBeParts n kinds.ChannelInterface d = CanBeInterface d

-- a name, and the parts of the kind
abbrev pub CanBeType : ℕ → TypeDeclaration → Type 0
CanBeType n d = IsName d.name × CanBeParts n d.kind d

-- Only a module or a network declares types, of which P holds.
abbrev pub CanBeTypes : TypeKind → (NestedType → Type 0) → List NestedType → Type 0
CanBeTypes kinds.Module P ts = Each P ts
CanBeTypes kinds.Network P ts = Each P ts
CanBeTypes _ P ts = ts ≡ []

-- a type, and those within it
abbrev pub CanBeLayer : ℕ → (NestedType → Type 0) → NestedType-F NestedType → Type 0
CanBeLayer n P t = CanBeType n t.declared × CanBeTypes t.declared.kind P t.types

-- a type with at most this many blocks open at once
unfoldable pub CanBeNested : ℕ → NestedType → Type 0
CanBeNested zero t = ⊥
CanBeNested (suc n) t = CanBeLayer n (CanBeNested n) (out-NestedType t)

-- each type can be declared
abbrev pub CanBeFile : NedFile → Type 0
CanBeFile f = Each (CanBeNested max_blocks) f.types
