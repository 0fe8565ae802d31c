-- Lines that say nothing.
use Rattle.std.specs.Prelude.{◌≡◌, true, false, [], ◌∷◌, ◌++◌, ◌==◌}
use Rattle.std.specs.Str.{is_utf8}
use Rattle.ned_tokens.specs.declared.runs.Class.TheVariants as class
use Rattle.ned_tokens.specs.Runs.{Bytes, is_in}
use Rattle.ned_tokens.specs.Lines.{lines_of, tokens_of, inside_behind}

abbrev pub AllBlank : Bytes → Type 0
AllBlank [] = Unit {0}
AllBlank (b ∷ bs) = (is_in class.Blank b ≡ true) × AllBlank bs

-- no byte ends a line
abbrev pub HasNoEnd : Bytes → Type 0
HasNoEnd [] = Unit {0}
HasNoEnd (b ∷ bs) = (b == 10 ≡ false) × HasNoEnd bs

-- nothing, or `//` and anything
abbrev pub IsComment : Bytes → Type 0
IsComment [] = Unit {0}
IsComment (a ∷ []) = ⊥
IsComment (a ∷ b ∷ bs) = (a ≡ 47) × (b ≡ 47)

-- a line of blanks, perhaps with a comment after them
pub record IsBlankLine (line : Bytes) : Type 0 where
  pub blanks : Bytes
  pub rest : Bytes
  pub parts : line ≡ blanks ++ rest
  pub all_blank : AllBlank blanks
  pub comment : IsComment rest
  pub is_text : is_utf8 line ≡ true
  pub no_end : HasNoEnd line

-- A blank line outside a text in quotes may be left out: the tokens stay the same.
abbrev pub SaysNothing : Bytes → Bytes → Bytes → Type 0
SaysNothing front line back = IsBlankLine line → inside_behind false (lines_of (front ++ 10 ∷ []))
    ≡ false → tokens_of (front ++ 10 ∷ (line ++ 10 ∷ back)) ≡ tokens_of (front ++ 10 ∷ back)
