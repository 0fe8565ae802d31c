use Rattle.std.proofs.Common.{◌≡◌, ◌+◌, drop, slice_get}
use Rattle.run_semantics.specs.Run.{parts_from}
use Rattle.kernel.proofs.kernel.part_behind.Given as goal

abbrev pub invariant-loop-index : goal.invariant-loop-index
invariant-loop-index l = slice_get (parts_from (l.first + l.index + 1) (drop l.index l.behind)) 0 ≡ slice_get (parts_from (l.id + 1) (drop l.id l.records)) 0
