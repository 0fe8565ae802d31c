use Rattle.std.proofs.Common.{◌≡◌, ◌++◌, length}
use Rattle.ned_tokens.specs.Lexing.{scanned, numbered_by, ends_open}
use Rattle.ned_tokens.proofs.lexing.scan.Given as goal

abbrev pub invariant-tokens : goal.invariant-tokens
invariant-tokens l = record {
  tokens : l.tokens.items ++ scanned l.rest ≡ l.fn.tokens.items ++ scanned l.bytes;
  lines : l.lines.items ++ numbered_by l.number (scanned l.rest) ≡ l.fn.lines.items ++ numbered_by l.number (scanned l.bytes);
  carried : ends_open l.carried (scanned l.rest) ≡ ends_open l.was_open (scanned l.bytes);
}

abbrev pub decreases-tokens : goal.decreases-tokens
decreases-tokens l = length l.rest
