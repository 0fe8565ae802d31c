-- Each beginning of a rule that was read can go on.
use Rattle.std.proofs.Common.{◌≡◌, ℕ, List, [], ◌∷◌, Some, refl}
use Rattle.std.specs.Prelude.{pos}
use Rattle.sim_values.specs.declared.value.Value.TheVariants as values
use Rattle.ned_tokens.specs.declared.token.Keyword.{Keyword}
use Rattle.ned_tokens.specs.declared.token.Mark.{Mark}
use Rattle.ned_tokens.specs.declared.token.Token.TheVariants as token
use Rattle.ned_leaves.specs.Grammar.{is_word, is_mark, name_of, word, mark, name, literal_of, plain_literal}
use Rattle.ned_tokens.proofs.ViableLaws.{Viable, token-viable}

pub word_on : (k : Keyword) → is_word k (token.Word k) ≡ Some tt → Viable (word k)
unfolding word
word_on k e = token-viable (is_word k) (token.Word k) tt e

pub mark_on : (k : Mark) → is_mark k (token.Mark k) ≡ Some tt → Viable (mark k)
unfolding mark
mark_on k e = token-viable (is_mark k) (token.Mark k) tt e

abbrev pub letter : List ℕ
letter = 97 ∷ []

pub name_on : Viable name
unfolding name
name_on = token-viable name_of (token.Name letter) letter refl

pub plain_literal_on : Viable plain_literal
unfolding plain_literal
plain_literal_on = token-viable literal_of (token.Number 0) (values.Whole (pos 0)) refl
