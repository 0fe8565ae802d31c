use Rattle.std.proofs.Common.{◌≡◌, drop}
use Rattle.inside_keys.specs.Places as places
use Rattle.inside_keys.proofs.place.variable_in.Given as goal

-- the variable is none of those before
abbrev pub invariant-loop-binding : goal.invariant-loop-binding
invariant-loop-binding l = places.variable_in (drop l.binding-index l.scope) l.name ≡ places.variable_in l.scope l.name
