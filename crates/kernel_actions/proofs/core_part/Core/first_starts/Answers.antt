use Rattle.std.proofs.Common.{◌∙◌, ap, option_map, slice_get, sym}
use Rattle.event_set.specs.Events.{coming_of}
use Rattle.run_semantics.specs.World.{World}
use Rattle.kernel_actions.proofs.Starts.{starts_beyond, starts_coming, starts_nothing}
use Rattle.kernel_actions.proofs.core_part.Core.first_starts.Goals as goal

pub returns-then-is_first_beyond : goal.returns-then-is_first_beyond
returns-then-is_first_beyond c = c.new.ensures ∙ starts_beyond c.args.limit c.args.self.now c.args.self.now.pending (sym c.is_first_beyond.ensures ∙ c.if-is_first_beyond.true)

pub returns-in_ok-ids-in-Some : goal.returns-in_ok-ids-in-Some
returns-in_ok-ids-in-Some c =
    starts_coming c.args.limit c.args.self.now c.args.self.now.pending c.in-Some.coming _ (sym c.is_first_beyond.ensures ∙ c.if-is_first_beyond.false)
    (ap (λ (w : World). option_map coming_of (slice_get w.pending 0)) (sym c.self.view_is) ∙ sym c.first.ensures ∙ c.in-Some.is) c.in_ok-ids-in-Some.ensures

pub returns-in-None : goal.returns-in-None
returns-in-None c =
    c.new-in-None.ensures
    ∙ starts_nothing c.args.limit c.args.self.now c.args.self.now.pending (ap (λ (w : World). option_map coming_of (slice_get w.pending 0)) (sym c.self.view_is) ∙ sym c.first.ensures ∙ c.in-None.is)
