use Rattle.std.proofs.Common.{ap, ◌∙◌, ◌-◌, slice_get}
use Rattle.checkpoints.specs.Stored.{last_of, number_up_to, up_to, Timeline}
use Rattle.kernel_actions.specs.declared.position.Position.{Position}
use Rattle.checkpoints.proofs.Keeping.{last_is, more, none_is}
use Rattle.checkpoints.proofs.positions.Positions.at_most.Goals as goal

pub returns-then-first-eq0 : goal.returns-then-first-eq0
returns-then-first-eq0 c =
    none_is c.args.event c.count_up_to-first.result c.self.inside.held.items c.self.inside.counts.items c.self.inside.first c.self.inside.interval c.self.invariant (c.count_up_to-first.ensures ∙ ap (number_up_to c.args.event) c.as_slice.ensures.value) c.if-first-eq0.true
    ∙ ap (λ (t : Timeline Position). last_of (up_to c.args.event t.stored)) c.self.view_is

pub returns : goal.returns
returns c =
    c.at.ensures ∙ ap (λ ps. slice_get ps (c.count_up_to-first.result - 1)) c.as_slice-2.ensures.value
    ∙ last_is c.args.event c.count_up_to-first.result c.self.inside.held.items c.self.inside.counts.items c.self.inside.first c.self.inside.interval c.self.invariant (c.count_up_to-first.ensures ∙ ap (number_up_to c.args.event) c.as_slice.ensures.value) (more c.count_up_to-first.result c.if-first-eq0.false)
    ∙ ap (λ (t : Timeline Position). last_of (up_to c.args.event t.stored)) c.self.view_is
