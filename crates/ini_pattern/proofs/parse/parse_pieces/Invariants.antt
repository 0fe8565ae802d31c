use Rattle.std.proofs.Common.{length}
use denote.Shadow.{shadow}
use denote.Text.{Utf8}
use Rattle.std.specs.Str.{chars}
use Rattle.ini_pattern.proofs.ParseLemmas.{PiecesSoFar}
use Rattle.ini_pattern.proofs.parse.parse_pieces.Given as goal

-- the pieces so far and those that are left are those of the text
abbrev pub invariant-loop-first : goal.invariant-loop-first
invariant-loop-first l = shadow (Utf8 l.rest) × PiecesSoFar l.pieces (chars l.text) (chars l.rest)

abbrev pub decreases-loop-first : goal.decreases-loop-first
decreases-loop-first l = length (chars l.rest)
