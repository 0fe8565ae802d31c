use Rattle.std.proofs.Common.{◌≡◌, ◌++◌, drop, map}
use Rattle.ned_scopes.specs.Scopes.{resolved_submodule}
use Rattle.ned_scopes.proofs.names.resolved_submodules.Given as goal

abbrev pub invariant-loop-submodule : goal.invariant-loop-submodule
invariant-loop-submodule l = l.all ++ map (resolved_submodule l.types l.scopes) (drop l.submodule-index l.submodules) ≡ map (resolved_submodule l.types l.scopes) l.submodules
