use Rattle.std.proofs.Common.{◌≡◌, drop}
use Rattle.inside_keys.specs.Unconnected.{one_lacks}
use Rattle.inside_keys.proofs.unconnected.one_lacks.Given as goal

-- none of the gates before is lacking
abbrev pub invariant-loop-gate : goal.invariant-loop-gate
invariant-loop-gate l = one_lacks l.wiring l.is_own l.loose l.vector (drop l.gate-index l.gates) ≡ one_lacks l.wiring l.is_own l.loose l.first l.gates
