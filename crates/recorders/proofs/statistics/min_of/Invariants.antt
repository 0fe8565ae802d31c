use Rattle.std.proofs.Common.{◌≡◌, drop}
use Rattle.std.specs.List.{fold}
use Rattle.std.specs.Int.{int_min}
use Rattle.recorders.proofs.statistics.min_of.Given as goal

abbrev pub invariant-loop-value : goal.invariant-loop-value
invariant-loop-value l = fold int_min l.least (drop l.value-index l.rest) ≡ fold int_min l.initial.least l.rest
