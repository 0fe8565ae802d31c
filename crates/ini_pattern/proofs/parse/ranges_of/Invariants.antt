use Rattle.std.proofs.Common.{length}
use denote.Shadow.{shadow}
use denote.Text.{Utf8}
use Rattle.std.specs.Str.{chars}
use Rattle.ini_pattern.proofs.ParseLemmas.{RangesSoFar}
use Rattle.ini_pattern.proofs.parse.ranges_of.Given as goal

-- the ranges so far and those that are left are those of the text
abbrev pub invariant-loop-behind : goal.invariant-loop-behind
invariant-loop-behind l = shadow (Utf8 l.rest) × RangesSoFar l.ranges (chars l.text) (chars l.rest)

abbrev pub decreases-loop-behind : goal.decreases-loop-behind
decreases-loop-behind l = length (chars l.rest)
