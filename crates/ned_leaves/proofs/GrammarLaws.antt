-- Each rule of the grammar keeps the laws.
use Rattle.ned_tokens.specs.declared.token.Keyword.{Keyword}
use Rattle.ned_tokens.specs.declared.token.Mark.{Mark}
use Rattle.ned_leaves.specs.Grammar.{is_word, is_mark, name_of, word, mark, name, literal_of, plain_literal}
use Rattle.ned_tokens.proofs.Laws.{Lawful, token-lawful}

-- ---- tokens

pub word-lawful : (k : Keyword) → Lawful (word k)
unfolding word
word-lawful k = token-lawful (is_word k)

pub mark-lawful : (k : Mark) → Lawful (mark k)
unfolding mark
mark-lawful k = token-lawful (is_mark k)

pub name-lawful : Lawful name
unfolding name
name-lawful = token-lawful name_of

-- ---- values

pub plain_literal-lawful : Lawful plain_literal
unfolding plain_literal
plain_literal-lawful = token-lawful literal_of
