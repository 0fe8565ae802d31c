use Rattle.std.proofs.Common.{◌≡◌, ℕ, ◌<◌, length, take}
use Rattle.recorders.specs.Places.{places_at, places_heard}
use Rattle.recorders.proofs.places.note_emissions.Given as goal

abbrev pub invariant-loop-place : goal.invariant-loop-place
invariant-loop-place l = (q : ℕ) → q < length l.lists → places_at l.lists q ≡ places_heard l.hearers q (take l.place l.emissions)
