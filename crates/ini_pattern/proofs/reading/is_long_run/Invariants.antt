use Rattle.std.proofs.Common.{◌≡◌, ◌≤◌, ◌+◌, length}
use denote.Shadow.{shadow}
use denote.Text.{Utf8}
use Rattle.std.specs.Str.{chars}
use Rattle.ini_pattern.specs.PatternOf.{digits_front}
use Rattle.ini_pattern.proofs.reading.is_long_run.Given as goal

-- so many digits are counted
abbrev pub invariant-loop-digit : goal.invariant-loop-digit
invariant-loop-digit l =
    shadow (Utf8 l.rest) × (l.count ≤ 18) × (length (digits_front (chars l.text)) ≡ l.count + length (digits_front (chars l.rest)))

abbrev pub decreases-loop-digit : goal.decreases-loop-digit
decreases-loop-digit l = length (chars l.rest)
