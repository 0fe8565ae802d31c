use Rattle.std.proofs.Common.{◌==◌}
use Rattle.recorders.proofs.Noted.{noted_step}
use Rattle.recorders.proofs.places.note_recorded.Goals as goal

pub loop-place-preserved : goal.loop-place-preserved
loop-place-preserved c =
    noted_step (λ q s. s.id == q) c.args.recorded.now c.loop-place.place c.index-recorded-place.result c.loop-place.lists c.note_for.new.lists
    c.loop-place-test.true c.index-recorded-place.is c.note_for.auto.lists c.loop-place.invariant c.in_ok-note_for.ensures
