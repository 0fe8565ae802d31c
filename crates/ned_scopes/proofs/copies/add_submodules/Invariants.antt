use Rattle.std.proofs.Common.{◌≡◌, ◌++◌, drop}
use Rattle.ned_scopes.proofs.copies.add_submodules.Given as goal

abbrev pub invariant-loop-submodule : goal.invariant-loop-submodule
invariant-loop-submodule l = l.submodules ++ drop l.submodule-index l.more ≡ l.fn.submodules ++ l.more
