use Rattle.kernel_sending.proofs.Joins.{joined_on, not_joined}
use Rattle.kernel_sending.proofs.joining.join_free.Goals as goal

pub returns-then-taken-clause-flow : goal.returns-then-taken-clause-flow
returns-then-taken-clause-flow g c =
    not_joined g.A.Answers.answers c.args.id c.args.from c.args.to c.args.link.now c.args.core.now c.is_taken.new.core c.in_ok-taken.taken c.in_ok-taken.ensures.asked
    c.broken.result c.if-taken.true c.broken.ensures

pub returns-clause-flow : goal.returns-clause-flow
returns-clause-flow g c =
    joined_on g.A.Answers.answers c.args.id c.args.from c.args.to c.args.link.now c.args.core.now c.is_taken.new.core c.in_ok-taken.taken c.in_ok-taken.ensures.asked
    c.change_gate.new.self c.channel_by-channel.result c.if-taken.false c.channel_by-channel.ensures c.in_ok-change_gate.ensures.done
