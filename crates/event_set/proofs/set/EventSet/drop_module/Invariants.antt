-- what stays when the module's events leave is the same after each of them
use Rattle.std.proofs.Common.{◌≡◌, [], ◌∷◌, length}
use Rattle.event_set.specs.Events.{without_modules}
use Rattle.event_set.proofs.set.EventSet.drop_module.Given as goal

abbrev pub invariant-loop : goal.invariant-loop
invariant-loop l = without_modules (l.id ∷ []) l.self ≡ without_modules (l.id ∷ []) l.fn.self

abbrev pub decreases-loop : goal.decreases-loop
decreases-loop l = length l.self.list
