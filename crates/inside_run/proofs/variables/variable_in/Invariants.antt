-- none of the loops above is of that variable
use Rattle.std.proofs.Common.{◌≡◌, drop}
use Rattle.inside_keys.specs.Places.{variable_in}
use Rattle.inside_walk.specs.Tasks.{scope_of}
use Rattle.inside_run.proofs.variables.variable_in.Given as goal

abbrev pub invariant-loop-depth : goal.invariant-loop-depth
invariant-loop-depth l = variable_in (scope_of (drop l.depth l.tasks)) l.name ≡ variable_in (scope_of l.tasks) l.name
