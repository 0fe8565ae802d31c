use Rattle.std.proofs.Common.{◌≡◌, ◌++◌, drop}
use Rattle.recorders.specs.Modes.{modes_not_among}
use Rattle.recorders.proofs.modes.push_not_among.Given as goal

abbrev pub invariant-loop-mode : goal.invariant-loop-mode
invariant-loop-mode l = l.found ++ modes_not_among (drop l.mode-index l.modes) l.others ≡ l.fn.found ++ modes_not_among l.modes l.others
