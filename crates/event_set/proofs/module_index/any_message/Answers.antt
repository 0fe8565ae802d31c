use Rattle.std.proofs.Common.{sym}
use Rattle.event_set.specs.Keys.{message_at}
use Rattle.event_set.proofs.Modules.{start, first_is, none_of}
use Rattle.event_set.proofs.module_index.any_message.Goals as goal

pub returns-in_default : goal.returns-in_default
returns-in_default c = λ m of. (c.range.ensures.in_range tt).5 c.in_default.ensures.steps.0 m (start c.args.id m.id m.number (sym of), tt)

pub returns-then-message-id : goal.returns-then-message-id
returns-then-message-id c = λ m of.
    let first = c.in-Some.message.now in
    let within = c.range.ensures.in_range tt in
    none_of (message_at c.args.messages.now.entries m) c.args.id first.id m.id first.number m.number
    (first_is _ _ _ _ c.in-Some.ensures.steps within.1).0.0
    (λ some. first_is _ _ _ _ c.in-Some.ensures.steps (within.2 m (start c.args.id m.id m.number (sym of), tt) some)) c.if-message-id.true of
