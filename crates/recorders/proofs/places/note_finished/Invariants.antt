use Rattle.std.proofs.Common.{◌≡◌, ℕ, ◌<◌, length, take}
use Rattle.recorders.specs.Places.{places_at, finished_places}
use Rattle.recorders.proofs.places.note_finished.Given as goal

abbrev pub invariant-loop-place : goal.invariant-loop-place
invariant-loop-place l = (q : ℕ) → q < length l.lists → places_at l.lists q ≡ finished_places q (take l.place l.finished)
