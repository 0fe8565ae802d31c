use Rattle.std.proofs.Common.{◌≡◌, drop}
use Rattle.ned_types.specs.Flat.{submodule_named}
use Rattle.ned_types.proofs.flat.submodule_named.Given as goal

abbrev pub invariant-loop-submodule : goal.invariant-loop-submodule
invariant-loop-submodule l = submodule_named l.name (drop l.submodule-index l.submodules) ≡ submodule_named l.name l.submodules
