use Rattle.std.proofs.Common.{◌≡◌, ℕ, List, [], ◌∷◌, map, codes, ap}
use Rattle.std.specs.Fmt.{digits}
use Rattle.sim_values.specs.declared.value.Value.{Value}
use Rattle.sim_values.specs.declared.value.Dimension.TheVariants as dimension
use Rattle.ned_tokens.specs.declared.token.Keyword.TheVariants as k
use Rattle.ned_tokens.specs.declared.token.Mark.TheVariants as m
use Rattle.ned_tokens.specs.declared.token.Token.{Token}
use Rattle.ned_tokens.specs.declared.token.Token.TheVariants as token
use Rattle.ned_trees.specs.declared.expressions.Expression.{Expression, the_lemmas}
use Rattle.ned_trees.specs.declared.expressions.Expression.TheVariants as expressions
use Rattle.ned_trees.specs.declared.expressions.Sign.TheVariants as signs
use Rattle.ned_expressions.specs.Spelling.{literal_tokens, expression_tokens}
use Rattle.ned_read_back.specs.Tokens.{spell, word_text, mark_text, unit_text}
use Rattle.ned_trees.specs.declared.declarations.TypeDeclaration.{TypeDeclaration}
use Rattle.ned_trees.specs.declared.declarations.NestedType.{NestedType, roll-NestedType}
use Rattle.ned_trees.specs.declared.declarations.NestedType.TheFolds.{fold-roll-NestedType}
use Rattle.ned_read_back.specs.Declarations.{kind_tokens, tokens_at, type_tokens, file_tokens, spelled}
use Rattle.ned_read_back.specs.Example.{example}
use Rattle.ned_read_back.proofs.declarations.spelled_example.Goals as goal

at_literal : (v : Value) → expression_tokens (expressions.Literal v) ≡ literal_tokens v
at_literal v = search the_lemmas

at_minus : (e : Expression) → expression_tokens (expressions.Signed signs.Minus e) ≡ token.Mark m.Minus ∷ expression_tokens e
at_minus e = search the_lemmas

at_name : (text : List ℕ) → expression_tokens (expressions.Name text) ≡ token.Name text ∷ []
at_name text = search the_lemmas

at_type : (d : TypeDeclaration) (ts : List NestedType) → type_tokens (roll-NestedType (record { declared = d; types = ts })) ≡ kind_tokens d.kind d (map type_tokens ts)
at_type d ts = fold-roll-NestedType (List Token) tokens_at (record { declared = d; types = ts })

-- the tokens of the example
abbrev tokens : List Token
tokens = token.Word k.Simple ∷ token.Name (codes "Source") ∷ token.Mark m.Open ∷ token.Word k.Parameters ∷ token.Mark m.Colon ∷ token.Word k.Double ∷ token.Name (codes "interval") ∷ token.Mark m.At ∷ token.Name (codes "unit") ∷ token.Mark m.LeftParen ∷ token.Name (codes "ps") ∷ token.Mark m.RightParen ∷ token.Mark m.Equals ∷ token.Word k.Default ∷ token.Mark m.LeftParen ∷ token.Quantity dimension.Time 1000000000000 ∷ token.Mark m.RightParen ∷ token.Mark m.Semi ∷ token.Word k.Int ∷ token.Name (codes "offset") ∷ token.Mark m.Equals ∷ token.Mark m.Minus ∷ token.Number 5 ∷ token.Mark m.Semi ∷ token.Name (codes "label") ∷ token.Mark m.Equals ∷ token.Literal (codes "a\tb") ∷ token.Mark m.Semi ∷ token.Mark m.At ∷ token.Name (codes "class") ∷ token.Mark m.LeftParen ∷ token.Name (codes "Src") ∷ token.Mark m.RightParen ∷ token.Mark m.Semi ∷ token.Mark m.At ∷ token.Name (codes "ignored") ∷ token.Mark m.Semi ∷ token.Mark m.At ∷ token.Name (codes "statistic") ∷ token.Mark m.LeftBracket ∷ token.Name (codes "sent") ∷ token.Mark m.RightBracket ∷ token.Mark m.LeftParen ∷ token.Name (codes "source") ∷ token.Mark m.Equals ∷ token.Name (codes "packetSent") ∷ token.Mark m.Semi ∷ token.Name (codes "record") ∷ token.Mark m.Equals ∷ token.Name (codes "count") ∷ token.Mark m.Comma ∷ token.Name (codes "sum") ∷ token.Mark m.Question ∷ token.Mark m.RightParen ∷ token.Mark m.Semi ∷ token.Word k.Gates ∷ token.Mark m.Colon ∷ token.Word k.Input ∷ token.Name (codes "in") ∷ token.Mark m.At ∷ token.Name (codes "loose") ∷ token.Mark m.Semi ∷ token.Word k.Output ∷ token.Name (codes "out") ∷ token.Mark m.LeftBracket ∷ token.Mark m.RightBracket ∷ token.Mark m.Semi ∷ token.Word k.Inout ∷ token.Name (codes "port") ∷ token.Mark m.LeftBracket ∷ token.Number 2 ∷ token.Mark m.RightBracket ∷ token.Mark m.At ∷ token.Name (codes "loose") ∷ token.Mark m.Semi ∷ token.Mark m.Close ∷ token.Word k.Simple ∷ token.Name (codes "Slow") ∷ token.Word k.Extends ∷ token.Name (codes "Source") ∷ token.Word k.Like ∷ token.Name (codes "Port") ∷ token.Mark m.Comma ∷ token.Name (codes "Named") ∷ token.Mark m.Open ∷ token.Word k.Parameters ∷ token.Mark m.Colon ∷ token.Word k.Gates ∷ token.Mark m.Colon ∷ token.Name (codes "out") ∷ token.Mark m.LeftBracket ∷ token.Number 3 ∷ token.Mark m.RightBracket ∷ token.Mark m.Semi ∷ token.Name (codes "out") ∷ token.Mark m.At ∷ token.Name (codes "loose") ∷ token.Mark m.Semi ∷ token.Mark m.Close ∷ token.Word k.Channel ∷ token.Name (codes "Wire") ∷ token.Word k.Extends ∷ token.Name (codes "DelayChannel") ∷ token.Word k.Like ∷ token.Name (codes "Line") ∷ token.Mark m.Open ∷ token.Word k.Parameters ∷ token.Mark m.Colon ∷ token.Name (codes "delay") ∷ token.Mark m.Equals ∷ token.Quantity dimension.Time 1000 ∷ token.Mark m.Semi ∷ token.Mark m.Close ∷ token.Word k.ModuleInterface ∷ token.Name (codes "Port") ∷ token.Word k.Extends ∷ token.Name (codes "First") ∷ token.Mark m.Comma ∷ token.Name (codes "Second") ∷ token.Mark m.Open ∷ token.Word k.Parameters ∷ token.Mark m.Colon ∷ token.Word k.Gates ∷ token.Mark m.Colon ∷ token.Word k.Inout ∷ token.Name (codes "port") ∷ token.Mark m.LeftBracket ∷ token.Mark m.RightBracket ∷ token.Mark m.Semi ∷ token.Mark m.Close ∷ token.Word k.ChannelInterface ∷ token.Name (codes "Line") ∷ token.Mark m.Open ∷ token.Word k.Parameters ∷ token.Mark m.Colon ∷ token.Mark m.Close ∷ token.Word k.Network ∷ token.Name (codes "Net") ∷ token.Mark m.Open ∷ token.Word k.Parameters ∷ token.Mark m.Colon ∷ token.Word k.Int ∷ token.Name (codes "size") ∷ token.Mark m.Equals ∷ token.Number 2 ∷ token.Mark m.Semi ∷ token.Word k.Types ∷ token.Mark m.Colon ∷ token.Word k.Simple ∷ token.Name (codes "Part") ∷ token.Mark m.Open ∷ token.Word k.Parameters ∷ token.Mark m.Colon ∷ token.Mark m.Close ∷ token.Word k.Network ∷ token.Name (codes "Pair") ∷ token.Mark m.Open ∷ token.Word k.Parameters ∷ token.Mark m.Colon ∷ token.Word k.Types ∷ token.Mark m.Colon ∷ token.Word k.Simple ∷ token.Name (codes "Half") ∷ token.Mark m.Open ∷ token.Word k.Parameters ∷ token.Mark m.Colon ∷ token.Mark m.Close ∷ token.Word k.Submodules ∷ token.Mark m.Colon ∷ token.Name (codes "p") ∷ token.Mark m.Colon ∷ token.Name (codes "Half") ∷ token.Mark m.Semi ∷ token.Mark m.Close ∷ token.Word k.Submodules ∷ token.Mark m.Colon ∷ token.Name (codes "a") ∷ token.Mark m.Colon ∷ token.Name (codes "Source") ∷ token.Mark m.Semi ∷ token.Name (codes "b") ∷ token.Mark m.LeftBracket ∷ token.Number 2 ∷ token.Mark m.RightBracket ∷ token.Mark m.Colon ∷ token.Mark m.Less ∷ token.Word k.Default ∷ token.Mark m.LeftParen ∷ token.Literal (codes "Source") ∷ token.Mark m.RightParen ∷ token.Mark m.Greater ∷ token.Word k.Like ∷ token.Name (codes "Port") ∷ token.Word k.If ∷ token.Name (codes "on") ∷ token.Mark m.Open ∷ token.Word k.Parameters ∷ token.Mark m.Colon ∷ token.Name (codes "offset") ∷ token.Mark m.Equals ∷ token.Number 3 ∷ token.Mark m.Semi ∷ token.Mark m.At ∷ token.Name (codes "ignored") ∷ token.Mark m.Semi ∷ token.Word k.Gates ∷ token.Mark m.Colon ∷ token.Name (codes "out") ∷ token.Mark m.LeftBracket ∷ token.Number 3 ∷ token.Mark m.RightBracket ∷ token.Mark m.Semi ∷ token.Mark m.Close ∷ token.Word k.Connections ∷ token.Word k.AllowUnconnected ∷ token.Mark m.Colon ∷ token.Name (codes "a") ∷ token.Mark m.Dot ∷ token.Name (codes "out") ∷ token.Mark m.PlusPlus ∷ token.Mark m.ArrowRight ∷ token.Name (codes "Wire") ∷ token.Mark m.Open ∷ token.Word k.Parameters ∷ token.Mark m.Colon ∷ token.Name (codes "delay") ∷ token.Mark m.Equals ∷ token.Quantity dimension.Time 5 ∷ token.Mark m.Semi ∷ token.Mark m.Close ∷ token.Mark m.ArrowRight ∷ token.Name (codes "b") ∷ token.Mark m.LeftBracket ∷ token.Number 0 ∷ token.Mark m.RightBracket ∷ token.Mark m.Dot ∷ token.Name (codes "in") ∷ token.Mark m.Semi ∷ token.Word k.For ∷ token.Name (codes "i") ∷ token.Mark m.Equals ∷ token.Number 0 ∷ token.Mark m.DotDot ∷ token.Number 1 ∷ token.Mark m.Comma ∷ token.Word k.If ∷ token.Name (codes "on") ∷ token.Mark m.Open ∷ token.Name (codes "port") ∷ token.Mark m.InHalf ∷ token.Mark m.LeftBracket ∷ token.Name (codes "i") ∷ token.Mark m.RightBracket ∷ token.Mark m.ArrowRight ∷ token.Name (codes "a") ∷ token.Mark m.Dot ∷ token.Name (codes "in") ∷ token.Mark m.Semi ∷ token.Mark m.Close ∷ token.Mark m.Close ∷ token.Word k.Module ∷ token.Name (codes "Node") ∷ token.Word k.Extends ∷ token.Name (codes "Base") ∷ token.Mark m.Open ∷ token.Word k.Parameters ∷ token.Mark m.Colon ∷ token.Word k.Submodules ∷ token.Mark m.Colon ∷ token.Mark m.Close ∷ []

tokens_are : file_tokens example ≡ tokens
unfolding unit_text
tokens_are = simp (at_type, at_minus, at_name, at_literal)

pub returns : goal.returns
unfolding spelled spell word_text mark_text unit_text digits
returns c = ap spell tokens_are
