-- The standard spelling of parameters and gates: the tokens that say them.
use Rattle.std.specs.Prelude.{Bool, true, false, List, [], ◌∷◌, ◌++◌, Option, Some, None, codes}
use Rattle.sim_values.specs.declared.value.Dimension.{Dimension}
use Rattle.ned_tokens.specs.declared.token.Keyword.{Keyword}
use Rattle.ned_tokens.specs.declared.token.Keyword.TheVariants as k
use Rattle.ned_tokens.specs.declared.token.Mark.TheVariants as m
use Rattle.ned_tokens.specs.declared.token.Token.{Token}
use Rattle.ned_tokens.specs.declared.token.Token.TheVariants as token
use Rattle.ned_trees.specs.Modes.{mode_name}
use Rattle.ned_trees.specs.declared.expressions.Expression.{Expression}
use Rattle.ned_trees.specs.declared.declarations.ParameterValue.{ParameterValue}
use Rattle.ned_trees.specs.declared.declarations.ParameterValue.TheVariants as given
use Rattle.ned_trees.specs.declared.declarations.ParameterWord.{ParameterWord}
use Rattle.ned_trees.specs.declared.declarations.ParameterWord.TheVariants as words
use Rattle.ned_trees.specs.declared.declarations.Declaration.{Declaration}
use Rattle.ned_trees.specs.declared.declarations.Assignment.{Assignment}
use Rattle.ned_trees.specs.declared.declarations.RecordedMode.{RecordedMode}
use Rattle.ned_trees.specs.declared.declarations.Statistic.{Statistic}
use Rattle.ned_trees.specs.declared.declarations.SectionLine.{SectionLine}
use Rattle.ned_trees.specs.declared.declarations.SectionLine.TheVariants as lines
use Rattle.ned_trees.specs.declared.declarations.GateDirection.{GateDirection}
use Rattle.ned_trees.specs.declared.declarations.GateDirection.TheVariants as directions
use Rattle.ned_trees.specs.declared.declarations.GateSize.{GateSize}
use Rattle.ned_trees.specs.declared.declarations.GateSize.TheVariants as sizes
use Rattle.ned_trees.specs.declared.declarations.GateLine.{GateLine}
use Rattle.ned_trees.specs.declared.declarations.GateLine.TheVariants as gate_lines
use Rattle.ned_expressions.specs.Spelling.{expression_tokens}
use Rattle.ned_read_back.specs.Tokens.{unit_text}

-- the tokens of a list, one element after the other
abbrev pub listed_tokens : {X : Type 0} → (X → List Token) → List X → List Token
listed_tokens f [] = []
listed_tokens f (x ∷ xs) = f x ++ listed_tokens f xs

-- ---- values

-- the expression, as `ned_expressions` spells it, or `default(..)`
abbrev pub given_tokens : ParameterValue → List Token
given_tokens (given.Fixed e) = expression_tokens e
given_tokens (given.Default e) = token.Word k.Default ∷ token.Mark m.LeftParen
    ∷ (expression_tokens e ++ token.Mark m.RightParen ∷ [])

-- `= ..`, where there is a value
abbrev pub valued_tokens : Option ParameterValue → List Token
valued_tokens None = []
valued_tokens (Some v) = token.Mark m.Equals ∷ given_tokens v

-- ---- lines of a section

-- `@unit(..)` with the smallest unit, where there is one
abbrev pub unit_tokens : Option Dimension → List Token
unit_tokens None = []
unit_tokens (Some d) = token.Mark m.At ∷ token.Name (codes "unit") ∷ token.Mark m.LeftParen
    ∷ token.Name (unit_text d) ∷ token.Mark m.RightParen ∷ []

-- the word that declares a parameter
abbrev pub parameter_keyword : ParameterWord → Keyword
parameter_keyword words.Bool = k.Bool
parameter_keyword words.Int = k.Int
parameter_keyword words.Text = k.Text
parameter_keyword words.Double = k.Double

-- word name [unit] [value]
abbrev pub declaration_tokens : Declaration → List Token
declaration_tokens d = token.Word (parameter_keyword d.word) ∷ token.Name d.name
    ∷ (unit_tokens d.unit ++ valued_tokens d.value)

-- name [value]
abbrev pub assignment_tokens : Assignment → List Token
assignment_tokens a = token.Name a.name ∷ valued_tokens a.value

-- `?`, where it is asked for
abbrev pub question_tokens : Bool → List Token
question_tokens true = token.Mark m.Question ∷ []
question_tokens false = []

-- mode ["?"]
abbrev pub mode_tokens : RecordedMode → List Token
mode_tokens r = token.Name (mode_name r.mode) ∷ question_tokens r.optional

-- "," mode
abbrev pub next_mode_tokens : RecordedMode → List Token
next_mode_tokens r = token.Mark m.Comma ∷ mode_tokens r

-- `; record = ..`, where there are modes
abbrev pub record_tokens : List RecordedMode → List Token
record_tokens [] = []
record_tokens (r ∷ rs) = token.Mark m.Semi ∷ token.Name (codes "record") ∷ token.Mark m.Equals
    ∷ (mode_tokens r ++ listed_tokens next_mode_tokens rs)

-- `@statistic[name](source = .. ; record = ..)`
abbrev pub statistic_tokens : Statistic → List Token
statistic_tokens s =
    token.Mark m.At ∷ token.Name (codes "statistic") ∷ token.Mark m.LeftBracket ∷ token.Name s.name
    ∷ token.Mark m.RightBracket
    ∷ token.Mark m.LeftParen ∷ token.Name (codes "source") ∷ token.Mark m.Equals
    ∷ token.Name s.source ∷ (record_tokens s.modes ++ token.Mark m.RightParen ∷ [])

-- A property without effect is written `@ignored`.
abbrev pub line_tokens : SectionLine → List Token
line_tokens (lines.Declaration d) = declaration_tokens d
line_tokens (lines.Assignment a) = assignment_tokens a
line_tokens (lines.Statistic s) = statistic_tokens s
line_tokens (lines.Class text) = token.Mark m.At ∷ token.Name (codes "class")
    ∷ token.Mark m.LeftParen ∷ token.Name text ∷ token.Mark m.RightParen ∷ []
line_tokens lines.Ignored = token.Mark m.At ∷ token.Name (codes "ignored") ∷ []

-- line ";"
abbrev pub section_line_tokens : SectionLine → List Token
section_line_tokens line = line_tokens line ++ token.Mark m.Semi ∷ []

-- the parameter section
abbrev pub section_tokens : List SectionLine → List Token
section_tokens ls = token.Word k.Parameters ∷ token.Mark m.Colon
    ∷ listed_tokens section_line_tokens ls

-- ---- gates

-- the word that says a gate's direction
abbrev pub direction_keyword : GateDirection → Keyword
direction_keyword directions.Input = k.Input
direction_keyword directions.Output = k.Output
direction_keyword directions.Inout = k.Inout

-- `[..]` around the size of a vector
abbrev pub bracket_tokens : Expression → List Token
bracket_tokens e = token.Mark m.LeftBracket
    ∷ (expression_tokens e ++ token.Mark m.RightBracket ∷ [])

-- `[]` or `[..]`, where the gate is a vector
abbrev pub size_tokens : GateSize → List Token
size_tokens sizes.Single = []
size_tokens sizes.Open = token.Mark m.LeftBracket ∷ token.Mark m.RightBracket ∷ []
size_tokens (sizes.Sized e) = bracket_tokens e

-- `[..]`, where there is a size
abbrev pub refined_size_tokens : Option Expression → List Token
refined_size_tokens None = []
refined_size_tokens (Some e) = bracket_tokens e

-- `@loose`, where the gate may stay unconnected
abbrev pub loose_tokens : Bool → List Token
loose_tokens true = token.Mark m.At ∷ token.Name (codes "loose") ∷ []
loose_tokens false = []

-- direction name size [loose] | name size [loose]
abbrev pub gate_tokens : GateLine → List Token
gate_tokens (gate_lines.Declaration g) = token.Word (direction_keyword g.direction)
    ∷ token.Name g.name ∷ (size_tokens g.size ++ loose_tokens g.loose)
gate_tokens (gate_lines.Refinement g) =
    token.Name g.name ∷ (refined_size_tokens g.size ++ loose_tokens g.loose)

-- gate ";"
abbrev pub gate_line_tokens : GateLine → List Token
gate_line_tokens g = gate_tokens g ++ token.Mark m.Semi ∷ []

-- the gates, where there are some
abbrev pub gates_tokens : List GateLine → List Token
gates_tokens [] = []
gates_tokens (g ∷ gs) =
    token.Word k.Gates ∷ token.Mark m.Colon ∷ listed_tokens gate_line_tokens (g ∷ gs)

-- `{ .. }`
abbrev pub in_braces : List Token → List Token
in_braces ts = token.Mark m.Open ∷ (ts ++ token.Mark m.Close ∷ [])
