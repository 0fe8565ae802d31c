use Rattle.std.proofs.Common.{◌∙◌, ap, option_map, slice_get, sym}
use Rattle.event_set.specs.Events.{coming_of}
use Rattle.run_semantics.specs.World.{World}
use Rattle.kernel_actions.proofs.Starts.{start_first, start_none}
use Rattle.kernel_actions.proofs.core_part.Core.is_start_first.Goals as goal

pub returns-in-Some : goal.returns-in-Some
returns-in-Some c = c.is_some.ensures ∙ start_first c.args.self.now.pending c.in-Some.coming (ap (λ (w : World). option_map coming_of (slice_get w.pending 0)) (sym c.self.view_is) ∙ sym c.first.ensures ∙ c.in-Some.is)

pub returns-in-None : goal.returns-in-None
returns-in-None c = start_none c.args.self.now.pending (ap (λ (w : World). option_map coming_of (slice_get w.pending 0)) (sym c.self.view_is) ∙ sym c.first.ensures ∙ c.in-None.is)
