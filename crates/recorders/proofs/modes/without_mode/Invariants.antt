use Rattle.std.proofs.Common.{◌≡◌, ◌++◌, drop}
use Rattle.recorders.specs.Modes.{without_mode}
use Rattle.recorders.proofs.modes.without_mode.Given as goal

abbrev pub invariant-loop-listed : goal.invariant-loop-listed
invariant-loop-listed l = l.left ++ without_mode (drop l.listed-index l.chosen) l.mode ≡ without_mode l.chosen l.mode
