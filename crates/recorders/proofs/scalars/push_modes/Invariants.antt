use Rattle.std.proofs.Common.{◌≡◌, ◌++◌, drop}
use Rattle.model_data.specs.Models.{entries_in}
use Rattle.recorders.specs.Scalars.{mode_lines}
use Rattle.recorders.proofs.scalars.push_modes.Given as goal

abbrev pub invariant-loop-mode : goal.invariant-loop-mode
invariant-loop-mode l =
    l.found ++ mode_lines (entries_in l.model) l.path l.statistic l.values (drop l.mode-index l.modes)
    ≡ l.fn.found ++ mode_lines (entries_in l.model) l.path l.statistic l.values l.modes
