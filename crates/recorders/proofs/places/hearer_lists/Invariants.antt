use Rattle.recorders.specs.Places.{AreHearers}
use Rattle.recorders.proofs.places.hearer_lists.Given as goal

abbrev pub invariant-loop-id : goal.invariant-loop-id
invariant-loop-id l = AreHearers l.wanted l.records l.id l.hearers.items
