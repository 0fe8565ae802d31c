use Rattle.std.proofs.Common.{◌∷◌, length}
use denote.Shadow.{shadow}
use denote.Text.{Utf8}
use Rattle.std.specs.Str.{chars}
use Rattle.ini_pattern.proofs.SteadyLemmas.{SteadySoFar}
use Rattle.ini_pattern.specs.declared.piece.Piece.TheVariants.{AnyName}
use Rattle.ini_pattern.proofs.matching.star_rest.Given as goal

-- the pieces leave what those after the last star leave
abbrev pub invariant-loop-front : goal.invariant-loop-front
invariant-loop-front l = shadow (Utf8 l.here) × SteadySoFar (AnyName ∷ l.pieces) l.left (chars l.name) (chars l.here)

abbrev pub decreases-loop-front : goal.decreases-loop-front
decreases-loop-front l = length l.left
