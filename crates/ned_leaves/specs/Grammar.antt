-- The grammar of what NED texts and ini texts share, over tokens (OMNeT++ Simulation Manual, "NED
-- Language Grammar").
use denote.Enum.Bare.{sameb}
use Rattle.std.specs.Prelude.{ℕ, pos, Bool, true, false, List, Option, Some, None, if◌then◌else◌}
use Rattle.std.specs.Prelude.{codes}
use Rattle.std.specs.Str.{bytes_eq}
use Rattle.sim_values.specs.declared.value.Value.{Value}
use Rattle.sim_values.specs.declared.value.Value.TheVariants as values
use Rattle.sim_values.specs.declared.value.Dimension.{Dimension}
use Rattle.ned_tokens.specs.contracts.token.Keyword as keywords
use Rattle.ned_tokens.specs.contracts.token.Mark as marks
use Rattle.ned_tokens.specs.declared.token.Keyword.{Keyword}
use Rattle.ned_tokens.specs.declared.token.Keyword.TheVariants as k
use Rattle.ned_tokens.specs.declared.token.Mark.{Mark}
use Rattle.ned_tokens.specs.declared.token.Mark.TheVariants as m
use Rattle.ned_tokens.specs.declared.token.Token.{Token}
use Rattle.ned_tokens.specs.declared.token.Token.TheVariants as token
use Rattle.ned_tokens.specs.Digits.{below_limit}
use Rattle.ned_tokens.specs.Rule.{Rule, token as one_token}
use Rattle.ned_trees.specs.declared.modes.Mode.{Mode}
use Rattle.ned_trees.specs.declared.modes.Mode.TheVariants as modes_are

abbrev pub Bytes : Type 0
Bytes = List ℕ

-- ---- tokens

abbrev pub same_word : Keyword → Keyword → Bool
same_word = sameb keywords.the_type

abbrev pub same_mark : Mark → Mark → Bool
same_mark = sameb marks.the_type

abbrev pub is_word : Keyword → Token → Option (Unit {0})
is_word k (token.Word w) = if same_word w k then Some tt else None
is_word k _ = None

abbrev pub is_mark : Mark → Token → Option (Unit {0})
is_mark k (token.Mark w) = if same_mark w k then Some tt else None
is_mark k _ = None

abbrev pub name_of : Token → Option Bytes
name_of (token.Name text) = Some text
name_of _ = None

-- a word of the language
unfoldable pub word : Keyword → Rule (Unit {0})
word k = one_token (is_word k)

-- a mark
unfoldable pub mark : Mark → Rule (Unit {0})
mark k = one_token (is_mark k)

-- a name
unfoldable pub name : Rule Bytes
name = one_token name_of

-- ---- values

abbrev pub whole_value : Option ℕ → Option Value
whole_value None = None
whole_value (Some n) = Some (values.Whole (pos n))

abbrev pub quantity_value : Dimension → Option ℕ → Option Value
quantity_value d None = None
quantity_value d (Some n) = Some (values.Quantity d (pos n))

-- a literal without a sign: a number, a truth value, a text or quantities in a row
abbrev pub literal_of : Token → Option Value
literal_of (token.Number n) = whole_value (below_limit n)
literal_of (token.Word k.True) = Some (values.Truth true)
literal_of (token.Word k.False) = Some (values.Truth false)
literal_of (token.Literal text) = Some (values.Text text)
literal_of (token.Quantity d n) = quantity_value d (below_limit n)
literal_of _ = None

unfoldable pub plain_literal : Rule Value
plain_literal = one_token literal_of

-- ---- recording modes

abbrev pub mode_named : Bytes → Option Mode
mode_named text =
    if bytes_eq text (codes "count") then Some modes_are.Count
    else (if bytes_eq text (codes "sum") then Some modes_are.Sum
    else (if bytes_eq text (codes "min") then Some modes_are.Min
    else (if bytes_eq text (codes "max") then Some modes_are.Max
    else (if bytes_eq text (codes "last") then Some modes_are.Last
    else (if bytes_eq text (codes "vector") then Some modes_are.Vector
    else None)))))
