use Rattle.recorders.specs.Places.{ids_at, is_number}
use Rattle.recorders.proofs.Noted.{noted_step}
use Rattle.recorders.proofs.places.note_emissions.Goals as goal

pub loop-place-preserved : goal.loop-place-preserved
loop-place-preserved c =
    noted_step (λ q e. is_number q (ids_at c.args.hearers.now e.id)) c.args.emissions.now c.loop-place.place c.index-emissions-place.result c.loop-place.lists c.note_around.new.lists
    c.loop-place-test.true c.index-emissions-place.is c.note_around.auto.lists c.loop-place.invariant c.in_ok-note_around.ensures
