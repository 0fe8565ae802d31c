use Rattle.std.proofs.Common.{◌≡◌, ◌++◌, length}
use Rattle.file_edits.specs.Items.{change_first, is_module_named, type_with}
use Rattle.file_edits.proofs.items.changed_types.Given as goal

abbrev pub invariant-types : goal.invariant-types
invariant-types l = l.changed ++ change_first (is_module_named l.name) (type_with l.items) l.left ≡ change_first (is_module_named l.name) (type_with l.items) l.types

abbrev pub decreases-types : goal.decreases-types
decreases-types l = length l.left
