use Rattle.std.proofs.Common.{◌≡◌, drop}
use Rattle.kernel.specs.Starts.{next_in}
use Rattle.kernel.proofs.kernel.part_among.Given as goal

abbrev pub invariant-loop-id : goal.invariant-loop-id
invariant-loop-id l = next_in l.records l.last (drop l.id-index l.ids) ≡ next_in l.records l.last l.ids
