use Rattle.std.proofs.Common.{◌≡◌, ◌++◌, ◌+◌, ◌≤◌, length}
use Rattle.ned_tokens.specs.Lines.{lines_of, tokens_of_lines, numbers_of_lines, tokens_of, line_numbers}
use Rattle.ned_tokens.proofs.lines.tokenize.Given as goal

abbrev pub invariant-lines : goal.invariant-lines
invariant-lines l = record {
  tokens : l.tokens.items ++ tokens_of_lines l.inside (lines_of l.rest) ≡ tokens_of l.bytes;
  lines : l.lines.items ++ numbers_of_lines (l.number + 1) l.inside (lines_of l.rest) ≡ line_numbers l.bytes;
  small : l.number + length l.rest ≤ length l.bytes;
}

abbrev pub decreases-lines : goal.decreases-lines
decreases-lines l = length l.rest
