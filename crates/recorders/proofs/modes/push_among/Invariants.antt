use Rattle.std.proofs.Common.{◌≡◌, ◌++◌, drop}
use Rattle.recorders.specs.Modes.{modes_among}
use Rattle.recorders.proofs.modes.push_among.Given as goal

abbrev pub invariant-loop-mode : goal.invariant-loop-mode
invariant-loop-mode l = l.found ++ modes_among (drop l.mode-index l.modes) l.others ≡ l.fn.found ++ modes_among l.modes l.others
