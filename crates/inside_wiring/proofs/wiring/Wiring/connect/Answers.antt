use Rattle.inside_wiring.proofs.Taken.{IsIndexed-connect}
use Rattle.inside_wiring.proofs.wiring.Wiring.connect.Goals as goal

pub invariant_of-result : goal.invariant_of-result
invariant_of-result c =
    IsIndexed-connect _ _ c.args.link _ _ _ _ _ _ _ _ _ c.self.invariant c.in_ok-push.ensures.ok c.key_of.ensures c.key_of-2.ensures c.in_ok-insert.ensures.updates.0 c.in_ok-insert-2.ensures.updates.0
