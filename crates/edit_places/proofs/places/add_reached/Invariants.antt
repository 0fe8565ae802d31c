use Rattle.std.proofs.Common.{◌≡◌, ◌≤◌, ◌-◌, ◌||◌, ℕ}
use Rattle.edit_places.specs.Edited.{between, is_reached}
use Rattle.rest_index.specs.Rests.{is_among}
use Rattle.edit_places.proofs.places.add_reached.Given as goal

abbrev pub invariant-entries : goal.invariant-entries
invariant-entries g l = (l.from ≤ l.number) × (l.number ≤ l.to)
    × ((p : ℕ) → is_among p l.places ≡ (is_among p l.fn.places || is_reached (g.P.PlacePaths.paths l.at) (between l.from l.number l.entries) p))

abbrev pub decreases-entries : goal.decreases-entries
decreases-entries g l = l.to - l.number
