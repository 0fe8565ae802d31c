use Rattle.std.proofs.Common.{◌≡◌, drop}
use Rattle.recorders.specs.Modes.{is_recorded}
use Rattle.recorders.proofs.modes.is_recorded.Given as goal

abbrev pub invariant-loop-named : goal.invariant-loop-named
invariant-loop-named l = is_recorded l.mode (drop l.named-index l.modes) ≡ is_recorded l.mode l.modes
