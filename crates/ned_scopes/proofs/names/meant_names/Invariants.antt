use Rattle.std.proofs.Common.{◌≡◌, ◌++◌, drop, map}
use Rattle.ned_scopes.specs.Scopes.{meant}
use Rattle.ned_scopes.proofs.names.meant_names.Given as goal

abbrev pub invariant-loop-name : goal.invariant-loop-name
invariant-loop-name l = l.full ++ map (meant l.types l.scopes) (drop l.name-index l.names) ≡ map (meant l.types l.scopes) l.names
