use Rattle.kernel_actions.proofs.Growing.{growth_on}
use Rattle.kernel_sending.proofs.Asking.{not_sent, sent_on}
use Rattle.kernel_sending.proofs.sending.send.Goals as goal

pub returns-in_ok-name-clause-flow : goal.returns-in_ok-name-clause-flow
returns-in_ok-name-clause-flow g c =
    sent_on g.A.Answers.answers c.args.id c.args.message.now c.args.gate.now c.args.departure.now c.args.core.now c.can_leave.new.core c.in_ok-can.can c.in_ok-can.ensures.asked
    c.send_on.result c.send_on.new.core c.in_ok-name.name c.if-can.true c.in_ok-name.ensures c.send_on.ensures.flow

pub returns-in_ok-name-clause-grown : goal.returns-in_ok-name-clause-grown
returns-in_ok-name-clause-grown g c = growth_on c.args.core.now c.can_leave.new.core c.send_on.new.core c.can_leave.ensures.grown c.send_on.ensures.grown

pub returns-else-can-clause-flow : goal.returns-else-can-clause-flow
returns-else-can-clause-flow g c =
    not_sent g.A.Answers.answers c.args.id c.args.message.now c.args.gate.now c.args.departure.now c.args.core.now c.can_leave.new.core c.in_ok-can.can c.in_ok-can.ensures.asked
    c.broken.result c.if-can.false c.broken.ensures
