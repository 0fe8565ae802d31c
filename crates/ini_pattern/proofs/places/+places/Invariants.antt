use Rattle.std.proofs.Common.{◌+◌, ◌-◌, ◌*◌, max}
use Rattle.std.specs.Str.{chars}
use Rattle.ini_pattern.specs.Places.{stars}
use Rattle.ini_pattern.proofs.PlacedLemmas.{Placed, total}
use Rattle.ini_pattern.proofs.places.+places.Given as goal

abbrev pub decreases-block_rest : goal.decreases-block_rest
decreases-block_rest l = 3 * stars l.pieces.now + 2

abbrev pub decreases-placed_rest : goal.decreases-placed_rest
decreases-placed_rest l = 3 * max 1 (stars l.pieces.now) + 1

abbrev pub decreases-try_block : goal.decreases-try_block
decreases-try_block l = 3 * l.number

-- each star up to this one has a place, and no place is passed that it could have
abbrev pub invariant-placed_rest-loop-rest : goal.invariant-placed_rest-loop-rest
invariant-placed_rest-loop-rest l =
    Placed l.number l.anywhere l.pieces l.to_end (chars l.floor) (chars l.name) l.heres l.lefts l.at

abbrev pub decreases-placed_rest-loop-rest : goal.decreases-placed_rest-loop-rest
decreases-placed_rest-loop-rest l = 2 * total l.heres + (64 - l.at)
