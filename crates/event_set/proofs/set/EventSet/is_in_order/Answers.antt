use Rattle.std.proofs.Common.{◌<◌, subst}
use Rattle.event_set.specs.declared.pending.Pending.{Pending}
use Rattle.event_set.specs.Events.{Events}
use Rattle.event_set.specs.Order.{Each, AreInOrder}
use Rattle.event_set.proofs.Sets.{in_order, all_below}
use Rattle.event_set.proofs.set.EventSet.is_in_order.Goals as goal

pub returns-clause-order : goal.returns-clause-order
returns-clause-order c = subst (λ (e : Events). AreInOrder e.list) c.self.view_is (in_order c.self.inside.events.entries c.self.invariant.ordered)

pub returns-clause-below : goal.returns-clause-below
returns-clause-below c = subst (λ (e : Events). Each (λ (p : Pending). p.number < e.next) e.list) c.self.view_is (all_below c.self.inside.next c.self.inside.events.entries c.self.invariant.below)
