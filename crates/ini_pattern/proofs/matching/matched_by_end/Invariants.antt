use Rattle.std.proofs.Common.{length}
use denote.Shadow.{shadow}
use denote.Text.{Utf8}
use Rattle.std.specs.Str.{chars}
use Rattle.ini_pattern.proofs.EndingLemmas.{EndedSoFar}
use Rattle.ini_pattern.proofs.matching.matched_by_end.Given as goal

-- the pieces that are left have to leave what was taken off the name's end
abbrev pub invariant-loop-wanted : goal.invariant-loop-wanted
invariant-loop-wanted l =
    shadow (Utf8 l.rest) × EndedSoFar l.pieces l.left (chars l.name) (chars l.rest)

abbrev pub decreases-loop-wanted : goal.decreases-loop-wanted
decreases-loop-wanted l = length l.left
