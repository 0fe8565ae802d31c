use Rattle.std.proofs.Common.{◌≡◌, ℕ, ◌<◌, length, take}
use Rattle.recorders.specs.Places.{is_number, noted_if, places_at}
use Rattle.recorders.proofs.places.note_for_all.Given as goal

abbrev pub invariant-loop-id : goal.invariant-loop-id
invariant-loop-id l = record {
  number : length l.lists ≡ length l.fn.lists;
  places : (q : ℕ) → q < length l.fn.lists → places_at l.lists q ≡ noted_if (is_number q (take l.id-index l.ids)) l.place (places_at l.fn.lists q);
}
