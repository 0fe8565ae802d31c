-- A blank line says nothing.
use Rattle.std.proofs.Common.{◌≡◌, Bool, false, List, [], ◌∷◌, ◌++◌, None, refl, sym, ap, ◌∙◌}
use Rattle.ned_tokens.specs.declared.token.Token.{Token}
use Rattle.ned_tokens.specs.declared.runs.Class.TheVariants as class
use Rattle.ned_tokens.specs.Runs.{Bytes, behind}
use Rattle.ned_tokens.specs.Lexing.{next, token_of, line_tokens, ends_open}
use Rattle.ned_tokens.specs.Lines.{lines_of, tokens_of_lines}
use Rattle.ned_tokens.specs.Blank.{AllBlank, HasNoEnd, IsComment, IsBlankLine, SaysNothing}
use Rattle.ned_tokens.proofs.LexLemmas.{scanned-none}
use Rattle.ned_tokens.proofs.LineLemmas.{lines-append, tokens-append, tokens_cons}

behind_blanks : (blanks rest : Bytes) → AllBlank blanks → behind class.Blank (blanks ++ rest) ≡ behind class.Blank rest
behind_blanks [] rest h = refl
behind_blanks (b ∷ bs) rest h = rw h.0 (behind_blanks bs rest h.1)

comment_none : (rest : Bytes) → IsComment rest → next rest ≡ None
unfolding token_of
comment_none [] h = refl
comment_none (a ∷ []) h = absurd h
comment_none (a ∷ b ∷ bs) h = rw (h.0, h.1) refl

no_tokens : (line : Bytes) → IsBlankLine line → line_tokens false line ≡ []
unfolding line_tokens
no_tokens line h =
    let none : next line ≡ None = ap next h.parts ∙ ap token_of (behind_blanks h.blanks h.rest h.all_blank) ∙ comment_none h.rest h.comment in
    rw h.is_text (scanned-none line none)

one_line : (line : Bytes) → HasNoEnd line → lines_of (line ++ 10 ∷ []) ≡ line ∷ []
unfolding lines_of
one_line [] h = refl
one_line (b ∷ bs) h = rw (h.0, one_line bs h.1) refl

pub says_nothing : (front line back : Bytes) → SaysNothing front line back
says_nothing front line back blank outside =
    let before = lines_of (front ++ 10 ∷ []) in
    let none = no_tokens line blank in
    let lines : lines_of (front ++ 10 ∷ (line ++ 10 ∷ back)) ≡ before ++ line ∷ lines_of back = lines-append front (line ++ 10 ∷ back) ∙ ap (λ (l : List Bytes). before ++ l) (lines-append line back ∙ ap (λ (l : List Bytes). l ++ lines_of back) (one_line line blank.no_end)) in
    let rest : tokens_of_lines false (line ∷ lines_of back) ≡ tokens_of_lines false (lines_of back) = tokens_cons false line (lines_of back) ∙ ap (λ (ts : List Token). ts ++ tokens_of_lines (ends_open false ts) (lines_of back)) none in
    ap (tokens_of_lines false) lines
    ∙ tokens-append false before (line ∷ lines_of back)
    ∙ ap (λ (b : Bool). tokens_of_lines false before ++ tokens_of_lines b (line ∷ lines_of back)) outside
    ∙ ap (λ (ts : List Token). tokens_of_lines false before ++ ts) rest
    ∙ ap (λ (b : Bool). tokens_of_lines false before ++ tokens_of_lines b (lines_of back)) (sym outside)
    ∙ sym (tokens-append false before (lines_of back))
    ∙ ap (tokens_of_lines false) (sym (lines-append front back))
