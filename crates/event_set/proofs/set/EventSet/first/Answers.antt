use Rattle.std.proofs.Common.{◌∙◌, Some, ap, slice_get}
use Rattle.std.specs.Option.{option_map}
use Rattle.event_set.specs.Events.{coming_of}
use Rattle.event_set.proofs.Firsts.{first_coming}
use Rattle.event_set.proofs.set.EventSet.first.Goals as goal

pub returns-in-Some : goal.returns-in-Some
returns-in-Some c =
    ap Some c.coming_at.ensures
    ∙ (first_coming c.self.inside.events.entries (c.in-Some.key.now, c.in-Some.entry.now) c.in-Some.ensures.first
    ∙ ap (λ e. option_map coming_of (slice_get e.list 0)) c.self.view_is)
