-- What a text declares is what its standard spelling declares.
use Rattle.std.proofs.Common.{◌≡◌, List, ℕ, subst, sym}
use Rattle.ned_tokens.specs.declared.token.Token.{Token}
use Rattle.ned_tokens.specs.Lines.{tokens_of}
use Rattle.ned_read_back.proofs.SpellingLaws as spelling
use Rattle.ned_read_back.proofs.SoundTokens.{sound_tokens}
use Rattle.ned_tokens.proofs.Whole as whole
use Rattle.ned_trees.specs.declared.expressions.Expression.{Expression}
use Rattle.ned_expressions.specs.Spelling.{expression_tokens}
use Rattle.ned_trees.specs.declared.declarations.NedFile.{NedFile}
use Rattle.ned_syntax.specs.Grammar.{file, expression}
use Rattle.ned_trees.specs.declared.connections.ConnectionItem.{ConnectionItem}
use Rattle.ned_connections.specs.Grammar.{whole_item, max_blocks}
use Rattle.ned_read_back.specs.Declarations.{file_tokens, item_tokens, spelled, spelled_expression, spelled_connection, IsReadBack, SaysTheSame, ExpressionIsReadBack, ConnectionIsReadBack, SpellingDecides}
use Rattle.ned_syntax.proofs.GrammarLaws.{file-lawful}
use Rattle.ned_read_back.proofs.Spellable.{CanBeFile, CanBeExpression, CanBeItem}
use Rattle.ned_read_back.proofs.Spells.{expression_is}
use Rattle.ned_read_back.proofs.SpellsConnections.{item_is}
use Rattle.ned_read_back.proofs.SpellsTypes.{file_is}
use Rattle.ned_read_back.proofs.HaveSpelling.{have_file, have_expression, have_item}
use Rattle.ned_read_back.proofs.Keeps.{expression_can}
use Rattle.ned_read_back.proofs.KeepsConnections.{item_can}
use Rattle.ned_read_back.proofs.KeepsTypes.{file_can}

-- the tokens of a file's spelling
spelled_tokens : (f : NedFile) → CanBeFile f → tokens_of (spelled f) ≡ file_tokens f
unfolding spelled
spelled_tokens f h = spelling.read_back (file_tokens f) (have_file f h)

-- the tokens of an expression's spelling
expression_tokens_are : (e : Expression) → CanBeExpression e → tokens_of (spelled_expression e) ≡ expression_tokens e
unfolding spelled_expression
expression_tokens_are e h = spelling.read_back (expression_tokens e) (have_expression e h)

-- however long it is, the spelling says the same
pub says_the_same : (bytes : List ℕ) → SaysTheSame bytes
says_the_same bytes f is =
    let can = file_can (tokens_of bytes) f (sound_tokens bytes) is.spells in
    subst (λ (ts : List Token). file.Is ts f) (sym (spelled_tokens f can)) (file_is f can)

-- where it is small enough, it declares the same
pub read_back : (bytes : List ℕ) → IsReadBack bytes
read_back bytes f is small = record { small = small; spells = says_the_same bytes f is }

-- an expression's spelling says the same
pub expression_read_back : (bytes : List ℕ) → ExpressionIsReadBack bytes
expression_read_back bytes e is small =
    let can = expression_can (tokens_of bytes) e (sound_tokens bytes) is.spells in
    record { small = small; spells = subst (λ (ts : List Token). expression.Is ts e) (sym (expression_tokens_are e can)) (expression_is e can) }

-- the tokens of an item's spelling
item_tokens_are : (i : ConnectionItem) → CanBeItem max_blocks i → tokens_of (spelled_connection i) ≡ item_tokens i
unfolding spelled_connection
item_tokens_are i h = spelling.read_back (item_tokens i) (have_item max_blocks i h)

-- an item's spelling says the same
pub connection_read_back : (bytes : List ℕ) → ConnectionIsReadBack bytes
connection_read_back bytes i is small =
    let can = item_can (tokens_of bytes) i (sound_tokens bytes) is.spells in
    record { small = small; spells = subst (λ (ts : List Token). whole_item.Is ts i) (sym (item_tokens_are i can)) (item_is i can) }

-- what is spelled the same is the same
pub spelling_decides : (first second : List ℕ) → SpellingDecides first second
spelling_decides first second f g one other same =
    let again = subst (λ (bytes : List ℕ). file.Is (tokens_of bytes) g) (sym same) (says_the_same second g other) in
    whole.one_meaning file file-lawful (tokens_of (spelled f)) f g (says_the_same first f one) again
