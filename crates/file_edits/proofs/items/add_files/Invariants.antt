use Rattle.std.proofs.Common.{◌≡◌, ◌++◌, drop}
use Rattle.file_edits.proofs.items.add_files.Given as goal

abbrev pub invariant-loop-shared : goal.invariant-loop-shared
invariant-loop-shared l = l.files ++ drop l.shared-index l.more ≡ l.fn.files ++ l.more
