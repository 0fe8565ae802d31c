use Rattle.std.proofs.Common.{ap, subst, sym}
use Rattle.checkpoints.specs.Stored.{AreBelow, Timeline}
use Rattle.kernel_actions.specs.declared.position.Position.{Position}
use Rattle.checkpoints.proofs.Keeping.{more_stored}
use Rattle.checkpoints.proofs.positions.Positions.push.Goals as goal

pub invariant_of-self-in-Ok : goal.invariant_of-self-in-Ok
invariant_of-self-in-Ok c =
    more_stored c.self.inside.held.items c.push-2.new.self.items c.self.inside.counts.items c.push.new.self.items c.self.inside.first c.self.inside.interval c.args.position c.count.result c.self.invariant
    (subst (λ (t : Timeline Position). AreBelow c.args.position.count t.stored) (sym c.self.view_is) c.requires) c.count.ensures (rw c.in-Ok.is at c.push-2.ensures.items) (rw c.in_ok-push.was at c.push.ensures.items)
