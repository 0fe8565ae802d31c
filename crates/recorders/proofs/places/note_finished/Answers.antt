use Rattle.std.proofs.Common.{◌==◌, get_or}
use Rattle.std.proofs.lemmas.List.{get_or_default}
use Rattle.recorders.proofs.Noted.{noted_step}
use Rattle.recorders.proofs.places.note_finished.Goals as goal

pub loop-place-preserved : goal.loop-place-preserved
loop-place-preserved c =
    noted_step (λ q f. f == q) c.args.finished.now c.loop-place.place (get_or c.args.finished.now c.loop-place.place 0) c.loop-place.lists c.note_for.new.lists
    c.loop-place-test.true (get_or_default c.args.finished.now c.loop-place.place 0 (get_or c.args.finished.now c.loop-place.place 0) c.loop-place-test.true) c.note_for.auto.lists c.loop-place.invariant c.in_ok-note_for.ensures
