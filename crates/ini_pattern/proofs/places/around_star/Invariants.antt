use Rattle.std.proofs.Common.{◌≡◌, ◌<◌, ◌+◌, drop, take}
use Rattle.ini_pattern.specs.Places.{stars}
use Rattle.ini_pattern.proofs.places.around_star.Given as goal

-- the stars that are counted, and those that are left
abbrev pub invariant-loop-at : goal.invariant-loop-at
invariant-loop-at l =
    (l.count < l.number) × (stars (take l.at l.pieces) ≡ l.count) × (l.count + stars (drop l.at l.pieces) ≡ stars l.pieces)
