use Rattle.std.proofs.Common.{◌≡◌, ◌++◌, drop}
use Rattle.std.specs.Prelude.{filter}
use Rattle.ned_trees.specs.declared.modes.Mode.{Mode}
use Rattle.recorders.specs.Modes.{is_recorded, default_modes}
use Rattle.recorders.proofs.modes.default_modes.Given as goal

abbrev pub invariant-loop-mode : goal.invariant-loop-mode
invariant-loop-mode l =
    l.found ++ filter (λ (m : Mode). is_recorded m l.modes) (drop l.mode-index l.listed) ≡ default_modes l.modes
