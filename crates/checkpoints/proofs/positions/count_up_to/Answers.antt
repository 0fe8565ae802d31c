use Rattle.checkpoints.proofs.Keeping.{counted_on, counted_to, counted_all}
use Rattle.checkpoints.proofs.positions.count_up_to.Goals as goal

pub returns-then-count-event : goal.returns-then-count-event
returns-then-count-event c = counted_to c.args.event c.loop-index.index c.args.counts.now c.loop-index-test.true c.if-count-event.true c.loop-index.invariant

pub loop-index-preserved : goal.loop-index-preserved
loop-index-preserved c = counted_on c.args.event c.loop-index.index c.args.counts.now c.loop-index-test.true c.if-count-event.false c.loop-index.invariant

pub returns : goal.returns
returns c = counted_all c.args.event c.loop-index.index c.args.counts.now c.loop-index-test.false c.loop-index.auto.index-end c.loop-index.invariant
