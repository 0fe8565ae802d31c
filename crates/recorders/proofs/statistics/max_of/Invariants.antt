use Rattle.std.proofs.Common.{◌≡◌, drop}
use Rattle.std.specs.List.{fold}
use Rattle.std.specs.Int.{int_max}
use Rattle.recorders.proofs.statistics.max_of.Given as goal

abbrev pub invariant-loop-value : goal.invariant-loop-value
invariant-loop-value l = fold int_max l.greatest (drop l.value-index l.rest) ≡ fold int_max l.initial.greatest l.rest
