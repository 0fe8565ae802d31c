use Rattle.std.proofs.Common.{◌≡◌, ◌+◌, drop}
use Rattle.inside_keys.specs.Unconnected.{lacking_from}
use Rattle.inside_keys.proofs.unconnected.lacking_from.Given as goal

-- none of the parts before lacks a connection
abbrev pub invariant-loop-place : goal.invariant-loop-place
invariant-loop-place l = lacking_from l.declared l.gates l.wiring (l.place + 1) (drop l.place l.parts) ≡ lacking_from l.declared l.gates l.wiring 1 l.parts
