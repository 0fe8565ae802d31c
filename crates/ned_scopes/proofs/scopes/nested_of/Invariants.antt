use Rattle.std.proofs.Common.{◌≡◌, ◌++◌}
use Rattle.std.specs.Vec.Iter.{into_iter_items}
use Rattle.ned_scopes.specs.Scopes.{nested_of}
use Rattle.ned_scopes.proofs.scopes.nested_of.Given as goal

abbrev pub invariant-loop-file : goal.invariant-loop-file
invariant-loop-file l = l.types ++ nested_of (into_iter_items l.file-iterator) ≡ nested_of l.fn.files.items
