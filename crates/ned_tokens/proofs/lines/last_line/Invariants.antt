use Rattle.std.proofs.Common.{◌≡◌, ◌+◌, ◌≤◌, length}
use Rattle.ned_tokens.specs.Lines.{last_line}
use Rattle.ned_tokens.proofs.lines.last_line.Given as goal

abbrev pub invariant-bytes : goal.invariant-bytes
invariant-bytes l = record { value : l.line + last_line l.rest ≡ last_line l.bytes + 1; small : l.line + length l.rest ≤ length l.bytes + 1 }

abbrev pub decreases-bytes : goal.decreases-bytes
decreases-bytes l = length l.rest
