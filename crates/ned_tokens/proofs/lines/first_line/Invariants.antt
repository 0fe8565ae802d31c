use Rattle.std.proofs.Common.{◌≡◌, ◌-◌, ◌≤◌, length, take, drop}
use Rattle.ned_tokens.specs.Lines.{lines_of}
use Rattle.ned_tokens.proofs.LineLemmas.{join_front}
use Rattle.ned_tokens.proofs.lines.first_line.Given as goal

abbrev pub invariant-bytes : goal.invariant-bytes
invariant-bytes l = record { within : l.end ≤ length l.bytes; lines : lines_of l.bytes ≡ join_front (take l.end l.bytes) (lines_of (drop l.end l.bytes)) }

abbrev pub decreases-bytes : goal.decreases-bytes
decreases-bytes l = length l.bytes - l.end
