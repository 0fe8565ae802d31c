use Rattle.std.proofs.Common.{List, subst, sym}
use Rattle.event_set.specs.declared.entry.EventEntry.{EventEntry}
use Rattle.event_set.specs.declared.places.Key.{Key}
use Rattle.event_set.specs.Keys.{Standing, stands_at, AreSound}
use Rattle.event_set.proofs.set.EventSet.copy.Goals as goal

pub invariant_of-result : goal.invariant_of-result
invariant_of-result c =
    subst (λ (s : Standing). AreSound c.in_ok-events.events.entries (stands_at s) c.self.inside.next) (sym c.in_ok-index.ensures)
    (subst (λ (es : List (Key × EventEntry)). AreSound es (stands_at c.self.inside.index) c.self.inside.next) (sym c.in_ok-events.ensures) c.self.invariant)
