use Rattle.std.proofs.Common.{◌≡◌, ℕ, List, false, [], ◌+◌, ◌++◌, ap, sym, ◌∙◌, arith}
use Rattle.std.proofs.lemmas.List.{append-nil, nil_from_length}
use Rattle.std.proofs.lemmas.Bool.Decides.{nat_tests}
use Rattle.ned_tokens.specs.Lines.{lines_of, tokens_of, line_numbers, tokens_of_lines, numbers_of_lines}
use Rattle.ned_tokens.specs.Lexing.{line_tokens, numbered_by, ends_open}
use Rattle.ned_tokens.proofs.LineLemmas.{tokens_cons, tokens_nil, numbers_cons, numbers_nil, gathered}
use Rattle.ned_tokens.proofs.lines.tokenize.Goals as goal

pub lines-preserved : goal.lines-preserved
lines-preserved c =
    let line = c.first_line.result.0.now in
    let after = lines_of c.first_line.result.1.now in
    let inside = c.lines.inside in
    let more = ends_open false (line_tokens inside line) in
    record {
      tokens = rw c.in_ok-inside.ensures.carried (gathered c.lines.tokens.items (line_tokens inside line) (tokens_of_lines more after) (tokens_of c.args.bytes.now) c.line_tokens.new.tokens.items (tokens_of_lines inside (lines_of c.lines.rest.now)) c.in_ok-inside.ensures.tokens (ap (tokens_of_lines inside) c.first_line.ensures.lines ∙ tokens_cons inside line after) c.lines.invariant.tokens);
      lines = rw c.in_ok-inside.ensures.carried (gathered c.lines.lines.items (numbered_by (c.lines.number + 1) (line_tokens inside line)) (numbers_of_lines (c.lines.number + 1 + 1) more after) (line_numbers c.args.bytes.now) c.line_tokens.new.lines.items (numbers_of_lines (c.lines.number + 1) inside (lines_of c.lines.rest.now)) c.in_ok-inside.ensures.lines (ap (numbers_of_lines (c.lines.number + 1) inside) c.first_line.ensures.lines ∙ numbers_cons (c.lines.number + 1) inside line after) c.lines.invariant.lines);
      small = omega (arith, c.first_line.ensures.shorter);
    }

pub returns-clause-tokens : goal.returns-clause-tokens
returns-clause-tokens c =
    let none : c.lines.rest.now ≡ [] = nil_from_length c.lines.rest.now (grind (arith, nat_tests)) in
    c.from_vec.ensures ∙ sym (append-nil c.lines.tokens.items) ∙ ap (λ l. c.lines.tokens.items ++ l) (sym (ap (λ (bs : List ℕ). tokens_of_lines c.lines.inside (lines_of bs)) none ∙ tokens_nil c.lines.inside)) ∙ c.lines.invariant.tokens

pub returns-clause-lines : goal.returns-clause-lines
returns-clause-lines c =
    let none : c.lines.rest.now ≡ [] = nil_from_length c.lines.rest.now (grind (arith, nat_tests)) in
    c.from_vec-2.ensures ∙ sym (append-nil c.lines.lines.items) ∙ ap (λ l. c.lines.lines.items ++ l) (sym (ap (λ (bs : List ℕ). numbers_of_lines (c.lines.number + 1) c.lines.inside (lines_of bs)) none ∙ numbers_nil (c.lines.number + 1) c.lines.inside)) ∙ c.lines.invariant.lines
