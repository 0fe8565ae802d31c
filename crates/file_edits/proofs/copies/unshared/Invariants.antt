use Rattle.std.proofs.Common.{◌≡◌, ◌++◌, drop}
use Rattle.file_edits.proofs.copies.unshared.Given as goal

abbrev pub invariant-loop-file : goal.invariant-loop-file
invariant-loop-file l = l.copy.items ++ drop l.file-index l.files ≡ l.files
