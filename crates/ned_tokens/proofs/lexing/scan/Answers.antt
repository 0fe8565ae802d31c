use Rattle.std.proofs.Common.{refl, ◌≡◌, ◌++◌, List, Some, None, ap, sym, ◌∙◌, append_assoc}
use Rattle.std.proofs.lemmas.List.{append-nil}
use Rattle.ned_tokens.specs.Lexing.{next, numbered_by, ends_open}
use Rattle.ned_tokens.specs.declared.token.Token.{Token}
use Rattle.ned_tokens.proofs.LexLemmas.{scanned-some, scanned-none, next_shorter}
use Rattle.ned_tokens.proofs.lexing.scan.Goals as goal
use Rattle.ned_tokens.proofs.lexing.scan.Goals.{In-Some, In_default}

found : (c : In-Some) → next c.tokens.rest.now ≡ Some (c.in-Some.token, c.in-Some.after.now)
found c = rw (← c.behind.ensures, c.in_ok-token.ensures, c.in-Some.is) refl

over : (c : In_default) → next c.tokens.rest.now ≡ None
over c = rw (← c.behind.ensures, c.in_ok-token.ensures, c.in_default.is) refl

pub tokens-smaller : goal.tokens-smaller
tokens-smaller c = next_shorter c.tokens.rest.now (c.in-Some.token, c.in-Some.after.now) (found (goal.at.tokens-smaller c).In-Some)

pub tokens-preserved : goal.tokens-preserved
tokens-preserved c =
    let more = scanned-some c.tokens.rest.now (c.in-Some.token, c.in-Some.after.now) (found (goal.at.tokens-preserved c).In-Some) in
    record {
      tokens = rw (c.in_ok-carried.ensures.tokens, append_assoc) (ap (λ (l : List Token). c.tokens.tokens.items ++ l) (sym more) ∙ c.tokens.invariant.tokens);
      lines = rw (c.in_ok-carried.ensures.lines, append_assoc) (ap (λ (l : List Token). c.tokens.lines.items ++ numbered_by c.args.number l) (sym more) ∙ c.tokens.invariant.lines);
      carried = rw c.in_ok-carried.ensures.carried (ap (ends_open c.tokens.carried) (sym more) ∙ c.tokens.invariant.carried);
    }

pub returns-clause-tokens : goal.returns-clause-tokens
returns-clause-tokens c =
    let none = scanned-none c.tokens.rest.now (over c) in
    sym (append-nil c.tokens.tokens.items) ∙ ap (λ (l : List Token). c.tokens.tokens.items ++ l) (sym none) ∙ c.tokens.invariant.tokens

pub returns-clause-lines : goal.returns-clause-lines
returns-clause-lines c =
    let none = scanned-none c.tokens.rest.now (over c) in
    sym (append-nil c.tokens.lines.items) ∙ ap (λ (l : List Token). c.tokens.lines.items ++ numbered_by c.args.number l) (sym none) ∙ c.tokens.invariant.lines

pub returns-clause-carried : goal.returns-clause-carried
returns-clause-carried c =
    let none = scanned-none c.tokens.rest.now (over c) in
    ap (ends_open c.tokens.carried) (sym none) ∙ c.tokens.invariant.carried
