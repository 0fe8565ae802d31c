use Rattle.std.proofs.Common.{◌==◌, ◌∙◌, ap, arith, get_or, sym}
use Rattle.std.proofs.lemmas.List.{get_or_default}
use Rattle.recorders.specs.Places.{noted_if, places_at}
use Rattle.recorders.proofs.Hearers.{noted_more}
use Rattle.recorders.proofs.places.note_for_all.Goals as goal

pub loop-id-preserved : goal.loop-id-preserved
loop-id-preserved c = record {
  number = c.note_for.auto.lists ∙ c.loop-id.invariant.number;
  places = λ q l.
      c.in_ok-note_for.ensures q (omega (arith, l, c.loop-id.invariant.number))
      ∙ ap (noted_if (get_or c.args.ids.now c.loop-id.id-index 0 == q) c.args.place) (c.loop-id.invariant.places q l)
      ∙ noted_more c.args.ids.now c.loop-id.id-index (get_or c.args.ids.now c.loop-id.id-index 0) q c.args.place (places_at c.args.lists.now q) c.loop-id-test.true
      (sym (get_or_default c.args.ids.now c.loop-id.id-index 0 (get_or c.args.ids.now c.loop-id.id-index 0) c.loop-id-test.true));
}
