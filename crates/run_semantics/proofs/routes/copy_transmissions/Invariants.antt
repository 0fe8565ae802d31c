use Rattle.std.proofs.Common.{◌≡◌, ◌++◌, drop}
use Rattle.run_semantics.proofs.routes.copy_transmissions.Given as goal

abbrev pub invariant-loop-transmission : goal.invariant-loop-transmission
invariant-loop-transmission l = l.copies ++ drop l.transmission-index l.transmissions ≡ l.transmissions
