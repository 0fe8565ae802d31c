use Rattle.std.proofs.Common.{◌≡◌, ℕ, ◌<◌, length, take}
use Rattle.recorders.specs.Places.{places_at, recorded_places}
use Rattle.recorders.proofs.places.note_recorded.Given as goal

abbrev pub invariant-loop-place : goal.invariant-loop-place
invariant-loop-place l = (q : ℕ) → q < length l.lists → places_at l.lists q ≡ recorded_places q (take l.place l.recorded)
