use Rattle.recorders.proofs.Reading.{scalars_next}
use Rattle.recorders.proofs.scalars.scalars.Goals as goal

pub loop-index-preserved : goal.loop-index-preserved
loop-index-preserved c =
    scalars_next c.args.model.now c.args.records.now c.args._finished.now c.args.recorded.now c.args.emissions.now c.args.places.now
    c.loop-index.found c.push_scalars_at.new.found _ c.loop-index.index c.index-records-index.result
    c.requires.are c.loop-index-test.true c.in_ok-push_scalars_at.ensures c.loop-index.invariant
