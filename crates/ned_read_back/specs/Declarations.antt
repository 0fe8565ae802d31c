-- The standard spelling of declarations: the tokens that say them, and the text of these.
use Rattle.std.specs.Prelude.{◌≡◌, ℕ, ◌≤◌, List, [], ◌∷◌, ◌++◌, length, Option, Some, None}
use Rattle.ned_tokens.specs.declared.token.Keyword.{Keyword}
use Rattle.ned_tokens.specs.declared.token.Keyword.TheVariants as k
use Rattle.ned_tokens.specs.declared.token.Mark.TheVariants as m
use Rattle.ned_tokens.specs.declared.token.Token.{Token}
use Rattle.ned_tokens.specs.declared.token.Token.TheVariants as token
use Rattle.ned_tokens.specs.Lines.{tokens_of}
use Rattle.sim_values.specs.Limits.{max_length}
use Rattle.ned_trees.specs.declared.expressions.Expression.{Expression}
use Rattle.ned_trees.specs.declared.declarations.ParameterValue.{ParameterValue}
use Rattle.ned_trees.specs.declared.declarations.SectionLine.{SectionLine}
use Rattle.ned_trees.specs.declared.declarations.Submodule.{Submodule}
use Rattle.ned_trees.specs.declared.declarations.SubmoduleType.{SubmoduleType}
use Rattle.ned_trees.specs.declared.declarations.SubmoduleType.TheVariants as types_are
use Rattle.ned_trees.specs.declared.declarations.GateLine.{GateLine}
use Rattle.ned_trees.specs.declared.declarations.TypeKind.{TypeKind}
use Rattle.ned_trees.specs.declared.declarations.TypeKind.TheVariants as kinds
use Rattle.ned_trees.specs.declared.declarations.TypeDeclaration.{TypeDeclaration}
use Rattle.ned_trees.specs.declared.declarations.NestedType.{NestedType, fold-NestedType}
use Rattle.ned_trees.specs.declared.declarations.NestedType.TheOpen.{NestedType-F}
use Rattle.ned_trees.specs.declared.declarations.NedFile.{NedFile}
use Rattle.ned_syntax.specs.Grammar.{file}
use Rattle.ned_syntax.specs.NedText.{IsNedFile}
use Rattle.ned_expressions.specs.ExpressionText.{IsExpressionText}
use Rattle.ned_expressions.specs.Spelling.{expression_tokens}
use Rattle.ned_trees.specs.declared.connections.ConnectionItem.{ConnectionItem}
use Rattle.ned_connections.specs.ConnectionText.{IsConnectionText}
use Rattle.ned_read_back.specs.Tokens.{spell}
-- parameters and gates, and connections
pub use Rattle.ned_read_back.specs.Sections.{listed_tokens, given_tokens, valued_tokens}
pub use Rattle.ned_read_back.specs.Sections.{unit_tokens, parameter_keyword, declaration_tokens}
pub use Rattle.ned_read_back.specs.Sections.{assignment_tokens, question_tokens, mode_tokens}
pub use Rattle.ned_read_back.specs.Sections.{next_mode_tokens, record_tokens, statistic_tokens}
pub use Rattle.ned_read_back.specs.Sections.{line_tokens, section_line_tokens, section_tokens}
pub use Rattle.ned_read_back.specs.Sections.{direction_keyword, bracket_tokens, size_tokens}
pub use Rattle.ned_read_back.specs.Sections.{refined_size_tokens, loose_tokens, gate_tokens}
pub use Rattle.ned_read_back.specs.Sections.{gate_line_tokens, gates_tokens, in_braces}
pub use Rattle.ned_read_back.specs.Connections.{half_tokens, index_tokens, end_gate_tokens}
pub use Rattle.ned_read_back.specs.Connections.{owned_tokens, end_tokens, block_tokens}
pub use Rattle.ned_read_back.specs.Connections.{channel_tokens, behind_tokens, connection_tokens}
pub use Rattle.ned_read_back.specs.Connections.{clause_tokens, next_clause_tokens, clauses_tokens}
pub use Rattle.ned_read_back.specs.Connections.{connection_line_tokens, item_tokens}
pub use Rattle.ned_read_back.specs.Connections.{allowance_tokens, written_tokens, section_there}
pub use Rattle.ned_read_back.specs.Connections.{connections_tokens}

-- ---- types

-- A body without lines and gates is written as a `;`.
abbrev pub body_tokens : List SectionLine → List GateLine → List Token
body_tokens [] [] = token.Mark m.Semi ∷ []
body_tokens (line ∷ ls) gs = in_braces (section_tokens (line ∷ ls) ++ gates_tokens gs)
body_tokens [] (g ∷ gs) = in_braces (section_tokens [] ++ gates_tokens (g ∷ gs))

-- the value between `<` and `>`, where there is one
abbrev pub angle_tokens : Option ParameterValue → List Token
angle_tokens None = []
angle_tokens (Some v) = given_tokens v

-- name | "<" [value] ">" "like" name
abbrev pub submodule_type_tokens : SubmoduleType → List Token
submodule_type_tokens (types_are.Named text) = token.Name text ∷ []
submodule_type_tokens (types_are.Like t) =
    (token.Mark m.Less ∷ (angle_tokens t.given ++ token.Mark m.Greater ∷ [])) ++ token.Word k.Like
    ∷ token.Name t.interface ∷ []

-- `if ..`, where there is a condition
abbrev pub condition_tokens : Option Expression → List Token
condition_tokens None = []
condition_tokens (Some e) = token.Word k.If ∷ expression_tokens e

-- name [size] ":" type [condition] body
abbrev pub submodule_tokens : Submodule → List Token
submodule_tokens s =
    token.Name s.name ∷ (refined_size_tokens s.size
    ++ token.Mark m.Colon ∷ (submodule_type_tokens s.submodule_type
    ++ (condition_tokens s.condition ++ body_tokens s.body.lines s.body.gates)))

-- the submodules of a module or a network
abbrev pub submodules_tokens : List Submodule → List Token
submodules_tokens ss =
    token.Word k.Submodules ∷ token.Mark m.Colon ∷ listed_tokens submodule_tokens ss

-- what a type extends
abbrev pub base_tokens : Option (List ℕ) → List Token
base_tokens None = []
base_tokens (Some name) = token.Word k.Extends ∷ token.Name name ∷ []

-- "," name
abbrev pub next_name_tokens : List ℕ → List Token
next_name_tokens name = token.Mark m.Comma ∷ token.Name name ∷ []

-- names after this word, where there are some
abbrev pub names_tokens : Keyword → List (List ℕ) → List Token
names_tokens w [] = []
names_tokens w (name ∷ names) =
    token.Word w ∷ token.Name name ∷ listed_tokens next_name_tokens names

-- the head of a type
abbrev pub head_tokens : TypeDeclaration → List Token
head_tokens d = token.Name d.name ∷ (base_tokens d.base ++ names_tokens k.Like d.interfaces)

-- An interface has parameters and gates, and says after `extends` which interfaces it keeps.
abbrev pub interface_tokens : Keyword → TypeDeclaration → List Token
interface_tokens w d = token.Word w ∷ token.Name d.name ∷ (names_tokens k.Extends d.interfaces
    ++ in_braces (section_tokens d.lines ++ gates_tokens d.gates))

-- the types within a type, each by its tokens, where there are some
abbrev pub types_tokens : List (List Token) → List Token
types_tokens [] = []
types_tokens (ts ∷ tss) =
    token.Word k.Types ∷ token.Mark m.Colon ∷ listed_tokens (λ us. us) (ts ∷ tss)

-- parameters, gates, types, submodules and connections
abbrev pub inside_tokens : TypeDeclaration → List (List Token) → List Token
inside_tokens d inner = section_tokens d.lines ++ (gates_tokens d.gates ++ (types_tokens inner
    ++ (submodules_tokens d.submodules ++ connections_tokens d.connections)))

-- A simple module has parameters and gates, a module or a network an inside too, a channel
-- parameters alone.
abbrev pub kind_tokens : TypeKind → TypeDeclaration → List (List Token) → List Token
kind_tokens kinds.Simple d inner = token.Word k.Simple
    ∷ (head_tokens d ++ in_braces (section_tokens d.lines ++ gates_tokens d.gates))
kind_tokens kinds.Module d inner =
    token.Word k.Module ∷ (head_tokens d ++ in_braces (inside_tokens d inner))
kind_tokens kinds.Network d inner =
    token.Word k.Network ∷ (head_tokens d ++ in_braces (inside_tokens d inner))
kind_tokens kinds.Channel d inner =
    token.Word k.Channel ∷ (head_tokens d ++ in_braces (section_tokens d.lines))
kind_tokens kinds.ModuleInterface d inner = interface_tokens k.ModuleInterface d
kind_tokens kinds.ChannelInterface d inner = interface_tokens k.ChannelInterface d

-- one type, with the tokens of each type within it in its place
abbrev pub tokens_at : NestedType-F (List Token) → List Token
tokens_at t = kind_tokens t.declared.kind t.declared t.types

-- a type, as its kind has it
abbrev pub type_tokens : NestedType → List Token
type_tokens t = fold-NestedType (List Token) tokens_at t

-- one type after the other
abbrev pub file_tokens : NedFile → List Token
file_tokens f = listed_tokens type_tokens f.types

-- THE STANDARD SPELLING of what a text declares
unfoldable pub spelled : NedFile → List ℕ
spelled f = spell (file_tokens f)

-- the standard spelling of an expression
unfoldable pub spelled_expression : Expression → List ℕ
spelled_expression e = spell (expression_tokens e)

-- the standard spelling of an item of connections
unfoldable pub spelled_connection : ConnectionItem → List ℕ
spelled_connection i = spell (item_tokens i)

-- ---- what is read back

-- What a text declares is what its standard spelling declares, where that is small enough to be
-- read.
abbrev pub IsReadBack : List ℕ → Type 0
IsReadBack bytes = (declared : NedFile) → IsNedFile bytes declared
    → length (spelled declared) ≤ max_length → IsNedFile (spelled declared) declared

-- However long the standard spelling is, its tokens say what the text declares.
abbrev pub SaysTheSame : List ℕ → Type 0
SaysTheSame bytes = (declared : NedFile) → IsNedFile bytes declared
    → file.Is (tokens_of (spelled declared)) declared

-- What an expression's text says is what its standard spelling says, where that is small enough to
-- be read.
abbrev pub ExpressionIsReadBack : List ℕ → Type 0
ExpressionIsReadBack bytes = (e : Expression) → IsExpressionText bytes e
    → length (spelled_expression e) ≤ max_length → IsExpressionText (spelled_expression e) e

-- What the text of an item of connections says is what its standard spelling says, where that is
-- small enough to be read.
abbrev pub ConnectionIsReadBack : List ℕ → Type 0
ConnectionIsReadBack bytes = (i : ConnectionItem) → IsConnectionText bytes i
    → length (spelled_connection i) ≤ max_length → IsConnectionText (spelled_connection i) i

-- What two texts declare is the same where it is spelled the same.
abbrev pub SpellingDecides : List ℕ → List ℕ → Type 0
SpellingDecides first second = (one other : NedFile) → IsNedFile first one → IsNedFile second other
    → spelled one ≡ spelled other → one ≡ other
