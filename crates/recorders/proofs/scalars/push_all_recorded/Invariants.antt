use Rattle.std.proofs.Common.{◌≡◌, ◌++◌, drop}
use Rattle.recorders.specs.ByPlaces.{lines_at_places}
use Rattle.recorders.proofs.scalars.push_all_recorded.Given as goal

abbrev pub invariant-loop-place : goal.invariant-loop-place
invariant-loop-place l =
    l.found ++ lines_at_places l.member.model.now l.member.records.now l.member.id l.recorded (drop l.place-index l.places)
    ≡ l.fn.found ++ lines_at_places l.member.model.now l.member.records.now l.member.id l.recorded l.places
