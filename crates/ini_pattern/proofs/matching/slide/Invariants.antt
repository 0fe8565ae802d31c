use Rattle.std.proofs.Common.{length}
use denote.Shadow.{shadow}
use denote.Text.{Utf8}
use Rattle.std.specs.Str.{chars}
use Rattle.ini_pattern.proofs.SteadyLemmas.{SlidSoFar}
use Rattle.ini_pattern.proofs.matching.slide.Given as goal

-- no dot is passed, and no place where the pieces leave a rest
abbrev pub invariant-loop-rest : goal.invariant-loop-rest
invariant-loop-rest l = shadow (Utf8 l.here) × SlidSoFar l.pieces l.to_end (chars l.name) (chars l.here)

abbrev pub decreases-loop-rest : goal.decreases-loop-rest
decreases-loop-rest l = length (chars l.here)
