use Rattle.std.proofs.Common.{ap, ◌∙◌, subst}
use Rattle.checkpoints.specs.Stored.{cut_after, left, number_up_to, up_to, Timeline}
use Rattle.kernel_actions.specs.declared.position.Position.{Position}
use Rattle.checkpoints.proofs.Keeping.{cut_is, cut_stored, none_left, some_left}
use Rattle.checkpoints.proofs.positions.Positions.cut_after.Goals as goal

pub invariant_of-self-else-kept-eq0 : goal.invariant_of-self-else-kept-eq0
invariant_of-self-else-kept-eq0 c =
    cut_stored c.count_up_to-kept.result c.self.inside.held.items c.truncate.new.self.items c.self.inside.counts.items c.truncate-2.new.self.items c.self.inside.first c.self.inside.interval c.self.inside.interval c.self.invariant
    c.truncate.ensures.items c.truncate-2.ensures.items c.self.invariant.interval_is

pub returns-then-kept-eq0 : goal.returns-then-kept-eq0
returns-then-kept-eq0 c =
    let t : Timeline Position = record { first = c.self.inside.first; interval = c.self.inside.interval; stored = c.self.inside.held.items } in
    none_left t c.count_up_to-kept.result c.truncate.new.self.items c.if-kept-eq0.true c.truncate.ensures.items
    ∙ ap (left t) (cut_is c.args.event c.count_up_to-kept.result c.self.inside.held.items c.truncate.new.self.items c.self.inside.counts.items c.self.inside.first c.self.inside.interval c.self.invariant
    (c.count_up_to-kept.ensures ∙ ap (number_up_to c.args.event) c.as_slice.ensures.value) c.truncate.ensures.items)
    ∙ ap (cut_after c.args.event) c.self.view_is

pub returns-else-kept-eq0 : goal.returns-else-kept-eq0
returns-else-kept-eq0 c =
    let t : Timeline Position = record { first = c.self.inside.first; interval = c.self.inside.interval; stored = c.self.inside.held.items } in
    some_left c.args.event t c.count_up_to-kept.result c.truncate.new.self.items c.self.inside.counts.items c.self.invariant
    (c.count_up_to-kept.ensures ∙ ap (number_up_to c.args.event) c.as_slice.ensures.value) c.if-kept-eq0.false c.truncate.ensures.items
    ∙ ap (left t) (cut_is c.args.event c.count_up_to-kept.result c.self.inside.held.items c.truncate.new.self.items c.self.inside.counts.items c.self.inside.first c.self.inside.interval c.self.invariant
    (c.count_up_to-kept.ensures ∙ ap (number_up_to c.args.event) c.as_slice.ensures.value) c.truncate.ensures.items)
    ∙ ap (cut_after c.args.event) c.self.view_is
