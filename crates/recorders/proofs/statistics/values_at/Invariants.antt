use Rattle.std.proofs.Common.{◌≡◌, ◌++◌, drop}
use Rattle.std.specs.List.{flat_map}
use Rattle.recorders.specs.Places.{of_place, value_of}
use Rattle.recorders.proofs.statistics.values_at.Given as goal

abbrev pub invariant-loop-place : goal.invariant-loop-place
invariant-loop-place l =
    l.values.items ++ flat_map (of_place (value_of l.vector) l.emissions) (drop l.place-index l.places)
    ≡ flat_map (of_place (value_of l.vector) l.emissions) l.places
