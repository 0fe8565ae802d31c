use Rattle.std.proofs.Common.{◌≡◌, ◌+◌, ◌++◌, drop}
use Rattle.recorders.specs.Vectors.{vectors_from, vectors_of}
use Rattle.recorders.proofs.vectors.vectors.Given as goal

abbrev pub invariant-loop-index : goal.invariant-loop-index
invariant-loop-index l =
    l.found ++ vectors_from l.model l.records l.emissions (l.index + 1) (drop l.index l.records)
    ≡ vectors_of l.model l.records l.emissions
