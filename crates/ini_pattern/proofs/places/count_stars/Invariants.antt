use Rattle.std.proofs.Common.{◌≡◌, ◌≤◌, ◌+◌, drop}
use Rattle.ini_pattern.specs.Places.{stars}
use Rattle.ini_pattern.proofs.places.count_stars.Given as goal

-- the stars that are counted, and those that are left
abbrev pub invariant-loop-piece : goal.invariant-loop-piece
invariant-loop-piece l =
    (l.count ≤ l.piece-index) × (l.count + stars (drop l.piece-index l.pieces) ≡ stars l.pieces)
