use Rattle.std.proofs.Common.{sym}
use Rattle.event_set.specs.Keys.{other_at}
use Rattle.event_set.proofs.Modules.{start, first_is, none_of}
use Rattle.event_set.proofs.timers.any_other.Goals as goal

pub returns-in_default : goal.returns-in_default
returns-in_default c = λ t of. (c.range.ensures.in_range tt).5 c.in_default.ensures.steps.0 t (start c.args.id t.id t.timer (sym of), tt)

pub returns-then-timer-id : goal.returns-then-timer-id
returns-then-timer-id c = λ t of.
    let first = c.in-Some.timer.now in
    let within = c.range.ensures.in_range tt in
    none_of (other_at c.args.others.now.entries t) c.args.id first.id t.id first.timer t.timer
    (first_is _ _ _ _ c.in-Some.ensures.steps within.1).0.0
    (λ some. first_is _ _ _ _ c.in-Some.ensures.steps (within.2 t (start c.args.id t.id t.timer (sym of), tt) some)) c.if-timer-id.true of
