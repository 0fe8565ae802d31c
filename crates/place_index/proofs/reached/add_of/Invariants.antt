use Rattle.std.proofs.Common.{◌≡◌, ◌&&◌, ◌||◌, ℕ, take}
use Rattle.place_index.specs.Places.{reaches}
use Rattle.place_index.proofs.reached.add_of.Given as goal
use Rattle.rest_index.specs.Rests.{is_among}

abbrev pub invariant-loop-place : goal.invariant-loop-place
invariant-loop-place g l = (p : ℕ) → is_among p l.found ≡ (is_among p l.fn.found || (is_among p (take l.place-index l.places) && reaches l.entry (g.P.PlacePaths.paths l.at p)))
