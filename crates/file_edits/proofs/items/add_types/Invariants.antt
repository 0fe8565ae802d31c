use Rattle.std.proofs.Common.{◌≡◌, ◌++◌, drop}
use Rattle.file_edits.proofs.items.add_types.Given as goal

abbrev pub invariant-loop-nested : goal.invariant-loop-nested
invariant-loop-nested l = l.types ++ drop l.nested-index l.more ≡ l.fn.types ++ l.more
