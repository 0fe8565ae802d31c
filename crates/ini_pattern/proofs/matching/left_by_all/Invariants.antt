use Rattle.std.proofs.Common.{◌≡◌, drop}
use denote.Shadow.{shadow}
use denote.Text.{Utf8}
use Rattle.std.specs.Str.{chars}
use Rattle.ini_pattern.specs.Reading.{left_by_all}
use Rattle.ini_pattern.proofs.matching.left_by_all.Given as goal

-- what the pieces that are left leave of what is left is what all leave of the name
abbrev pub invariant-loop-piece : goal.invariant-loop-piece
invariant-loop-piece l =
    shadow (Utf8 l.rest) × (left_by_all (drop l.piece-index l.pieces) (chars l.rest) ≡ left_by_all l.pieces (chars l.name))
