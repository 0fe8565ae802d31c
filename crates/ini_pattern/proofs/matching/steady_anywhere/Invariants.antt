use Rattle.std.proofs.Common.{length}
use denote.Shadow.{shadow}
use denote.Text.{Utf8}
use Rattle.std.specs.Str.{chars}
use Rattle.ini_pattern.proofs.SteadyLemmas.{StartsFrom}
use Rattle.ini_pattern.proofs.matching.steady_anywhere.Given as goal

-- no start is passed from which the pieces leave a rest
abbrev pub invariant-loop-rest : goal.invariant-loop-rest
invariant-loop-rest l = shadow (Utf8 l.from) × StartsFrom l.pieces l.to_end (chars l.name) (chars l.from)

abbrev pub decreases-loop-rest : goal.decreases-loop-rest
decreases-loop-rest l = length (chars l.from)
