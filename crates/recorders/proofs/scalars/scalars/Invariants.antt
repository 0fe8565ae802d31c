use Rattle.std.proofs.Common.{◌≡◌, ◌+◌, ◌++◌, drop}
use Rattle.recorders.specs.Scalars.{scalars_from, scalars_of}
use Rattle.recorders.proofs.scalars.scalars.Given as goal

abbrev pub invariant-loop-index : goal.invariant-loop-index
invariant-loop-index l =
    l.found ++ scalars_from l.model l.records l._finished l.recorded l.emissions (l.index + 1) (drop l.index l.records)
    ≡ scalars_of l.model l.records l._finished l.recorded l.emissions
