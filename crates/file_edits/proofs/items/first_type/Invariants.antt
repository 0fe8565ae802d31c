use Rattle.std.proofs.Common.{◌≡◌, drop}
use Rattle.file_edits.specs.Items.{first_of, is_module_named}
use Rattle.file_edits.proofs.items.first_type.Given as goal

abbrev pub invariant-loop-nested : goal.invariant-loop-nested
invariant-loop-nested l = first_of (is_module_named l.name) (drop l.nested-index l.types) ≡ first_of (is_module_named l.name) l.types
