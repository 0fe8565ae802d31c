use Rattle.std.proofs.Common.{◌≡◌, drop}
use Rattle.recorders.specs.Modes.{with_modes}
use Rattle.recorders.proofs.modes.add_modes.Given as goal

abbrev pub invariant-loop-mode : goal.invariant-loop-mode
invariant-loop-mode l = with_modes l.chosen (drop l.mode-index l.modes) ≡ with_modes l.fn.chosen l.modes
