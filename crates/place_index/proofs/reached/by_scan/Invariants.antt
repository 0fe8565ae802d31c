use Rattle.std.proofs.Common.{◌≡◌, ◌<◌, ◌≤◌, ℕ, false}
use Rattle.place_index.specs.Places.{reaches}
use Rattle.place_index.proofs.reached.by_scan.Given as goal
use Rattle.rest_index.specs.Rests.{is_among}

abbrev pub invariant-loop-place : goal.invariant-loop-place
invariant-loop-place g l = (p : ℕ) → (p < l.place → is_among p l.found ≡ reaches l.entry (g.P.PlacePaths.paths l.at p)) × (l.place ≤ p → is_among p l.found ≡ false)
