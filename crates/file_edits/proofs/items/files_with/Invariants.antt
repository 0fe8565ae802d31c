use Rattle.std.proofs.Common.{◌≡◌, ◌++◌, length}
use Rattle.file_edits.specs.Items.{files_with}
use Rattle.file_edits.proofs.items.files_with.Given as goal

abbrev pub invariant-files : goal.invariant-files
invariant-files l = l.changed ++ files_with l.name l.items l.left ≡ files_with l.name l.items l.files

abbrev pub decreases-files : goal.decreases-files
decreases-files l = length l.left
