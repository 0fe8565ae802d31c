use Rattle.std.proofs.Common.{◌≡◌, ◌++◌, drop}
use Rattle.file_edits.proofs.copies.+copying.Given as goal

abbrev pub invariant-copy_types-loop-nested : goal.invariant-copy_types-loop-nested
invariant-copy_types-loop-nested l = l.copy ++ drop l.nested-index l.types ≡ l.types
