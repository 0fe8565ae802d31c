use Rattle.std.proofs.Common.{◌≡◌, length}
use Rattle.module_parts.specs.Paths.{parent_path}
use Rattle.module_parts.proofs.paths.parent_path.Given as goal

abbrev pub invariant-bytes : goal.invariant-bytes
invariant-bytes l = parent_path l.left ≡ parent_path l.path

abbrev pub decreases-bytes : goal.decreases-bytes
decreases-bytes l = length l.left
