use Rattle.std.proofs.Common.{◌↔◌, length}
use denote.Shadow.{shadow}
use denote.Text.{Utf8}
use Rattle.std.specs.Str.{chars}
use Rattle.ini_pattern.specs.Reading.{MatchesEnd}
use Rattle.ini_pattern.proofs.matching.matches_end.Given as goal

-- the pieces match an end of the name exactly where those that are left match an end of what is
-- left
abbrev pub invariant-loop-front : goal.invariant-loop-front
invariant-loop-front l =
    shadow (Utf8 l.rest) × (MatchesEnd l.pieces (chars l.name) ↔ MatchesEnd l.left (chars l.rest))

abbrev pub decreases-loop-front : goal.decreases-loop-front
decreases-loop-front l = length l.left
