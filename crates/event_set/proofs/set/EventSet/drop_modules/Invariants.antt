-- what leaves from here leaves what is left of all
use Rattle.std.proofs.Common.{◌≡◌, drop}
use Rattle.event_set.specs.Events.{without_modules}
use Rattle.event_set.proofs.set.EventSet.drop_modules.Given as goal

abbrev pub invariant-loop-id : goal.invariant-loop-id
invariant-loop-id l = without_modules (drop l.id-index l.ids) l.self ≡ without_modules l.ids l.fn.self
