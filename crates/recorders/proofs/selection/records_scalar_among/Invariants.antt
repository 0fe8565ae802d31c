use Rattle.std.proofs.Common.{◌≡◌, drop}
use Rattle.model_data.specs.Models.{entries_in}
use Rattle.recorders.specs.Selection.{records_scalar_among}
use Rattle.recorders.proofs.selection.records_scalar_among.Given as goal

abbrev pub invariant-loop-mode : goal.invariant-loop-mode
invariant-loop-mode l =
    records_scalar_among (entries_in l.model) l.path l.name (drop l.mode-index l.modes)
    ≡ records_scalar_among (entries_in l.model) l.path l.name l.modes
