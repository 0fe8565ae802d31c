use Rattle.checkpoints.proofs.Keeping.{stay_stored}
use Rattle.checkpoints.proofs.positions.Positions.thin.Goals as goal

pub invariant_of-self : goal.invariant_of-self
invariant_of-self c =
    stay_stored c.self.inside.held.items c.keep_positions.new.held.items c.self.inside.counts.items c.keep_counts.new.counts.items c.self.inside.first c.self.inside.interval c.doubled-interval.result c.args.newest c.self.invariant
    c.doubled-interval.ensures c.keep_positions.ensures c.keep_counts.ensures
