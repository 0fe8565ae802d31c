use Rattle.std.proofs.Common.{◌≡◌, drop}
use Rattle.recorders.specs.Selection.{after_items}
use Rattle.recorders.proofs.selection.choose_modes.Given as goal

abbrev pub invariant-loop-item : goal.invariant-loop-item
invariant-loop-item l = after_items l.modes l.chosen (drop l.item-index l.items) ≡ after_items l.modes l.fn.chosen l.items
