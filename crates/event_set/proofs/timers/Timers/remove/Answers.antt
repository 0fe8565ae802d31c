use Rattle.std.proofs.Common.{◌∙◌, ap}
use Rattle.event_set.specs.Keys.{Slots, first_at, other_at, place_at, forgotten}
use Rattle.event_set.proofs.Slots.{less_other}
use Rattle.event_set.proofs.timers.Timers.remove.Goals as goal

pub returns-in-None-clause-rest : goal.returns-in-None-clause-rest
returns-in-None-clause-rest c = λ t.
    less_other (first_at c.self.inside.firsts.items) (other_at c.self.inside.others.entries) (first_at c.take_from_slot.new.firsts.items) (other_at c.remove.new.self.entries) c.args.timer
    (λ q. c.take_from_slot.ensures.rest q) (λ q. c.remove.ensures.updates.0 q) t
    ∙ ap (λ (s : Slots). forgotten c.args.timer (place_at s) t) c.self.view_is
