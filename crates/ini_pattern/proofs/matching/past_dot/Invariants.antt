use Rattle.std.proofs.Common.{length}
use denote.Shadow.{shadow}
use denote.Text.{Utf8}
use Rattle.std.specs.Str.{chars}
use Rattle.ini_pattern.proofs.SteadyLemmas.{PastNoDot}
use Rattle.ini_pattern.proofs.matching.past_dot.Given as goal

-- no dot is passed
abbrev pub invariant-loop-c : goal.invariant-loop-c
invariant-loop-c l = shadow (Utf8 l.here) × PastNoDot (chars l.name) (chars l.here)

abbrev pub decreases-loop-c : goal.decreases-loop-c
decreases-loop-c l = length (chars l.here)
