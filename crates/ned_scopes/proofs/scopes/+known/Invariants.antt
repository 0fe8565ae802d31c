use Rattle.std.proofs.Common.{◌≡◌, drop}
use Rattle.ned_scopes.specs.Known.{all_behind}
use Rattle.ned_scopes.specs.Scopes.{known_within}
use Rattle.ned_scopes.proofs.scopes.+known.Given as goal

abbrev pub invariant-add_within-loop-nested : goal.invariant-add_within-loop-nested
invariant-add_within-loop-nested l = all_behind l.known (known_within l.outer (drop l.nested-index l.types)) ≡ all_behind l.fn.known (known_within l.outer l.types)
