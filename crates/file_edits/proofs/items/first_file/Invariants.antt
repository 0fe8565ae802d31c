use Rattle.std.proofs.Common.{◌≡◌, drop}
use Rattle.file_edits.specs.Items.{first_of, declares}
use Rattle.file_edits.proofs.items.first_file.Given as goal

abbrev pub invariant-loop-shared : goal.invariant-loop-shared
invariant-loop-shared l = first_of (declares l.name) (drop l.shared-index l.files) ≡ first_of (declares l.name) l.files
