use Rattle.std.proofs.Common.{◌≡◌, ◌++◌, drop}
use Rattle.ned_files.proofs.shared.copy_files.Given as goal

abbrev pub invariant-loop-file : goal.invariant-loop-file
invariant-loop-file l = l.copy ++ drop l.file-index l.files ≡ l.files
