-- none of the bindings above is of that variable
use Rattle.std.proofs.Common.{◌≡◌, drop}
use Rattle.inside_keys.specs.Places.{variable_in}
use Rattle.inside_run.proofs.variables.bound_in.Given as goal

abbrev pub invariant-loop-depth : goal.invariant-loop-depth
invariant-loop-depth l = variable_in (drop l.depth l.bindings) l.name ≡ variable_in l.bindings l.name
