use Rattle.std.proofs.Common.{◌≡◌, ◌+◌, ◌++◌, suc, drop}
use Rattle.run_semantics.specs.Run.{compounds_from}
use Rattle.kernel_sending.proofs.building.compounds_behind.Given as goal

abbrev pub invariant-loop-index : goal.invariant-loop-index
invariant-loop-index l = l.ids ++ compounds_from (suc (l.last + l.index)) (drop l.index l.inside) ≡ compounds_from (suc l.last) l.inside
