use Rattle.std.proofs.Common.{◌∙◌, sym, arith, drop}
use Rattle.inside_keys.proofs.Lacking.{none_after}
use Rattle.inside_keys.proofs.unconnected.one_lacks.Goals as goal

pub returns-then-vector-count : goal.returns-then-vector-count
returns-then-vector-count c =
    sym (none_after c.args.wiring.now c.args.is_own c.args.loose.now c.loop-gate.vector (drop c.loop-gate.gate-index c.args.gates.now) (omega arith)) ∙ c.loop-gate.invariant
