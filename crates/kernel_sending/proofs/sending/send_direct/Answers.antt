use Rattle.kernel_actions.proofs.Growing.{growth_on}
use Rattle.kernel_sending.proofs.Asking.{direct_on, not_entered}
use Rattle.kernel_sending.proofs.sending.send_direct.Goals as goal

pub returns-in_ok-name-clause-flow : goal.returns-in_ok-name-clause-flow
returns-in_ok-name-clause-flow g c =
    direct_on g.A.Answers.answers c.args.id c.args.message.now c.args.place.now c.args.flight.now c.args.core.now c.can_enter.new.core c.in-Some.target _ c.module_at.ensures.found c.in-Some.is c.in_ok-can.can
    c.in_ok-can.ensures.asked c.send_free.result c.send_free.new.core c.in_ok-name.name c.if-can.true c.in_ok-name.ensures c.send_free.ensures.flow

pub returns-in_ok-name-clause-grown : goal.returns-in_ok-name-clause-grown
returns-in_ok-name-clause-grown g c = growth_on c.args.core.now c.can_enter.new.core c.send_free.new.core c.can_enter.ensures.grown c.send_free.ensures.grown

pub returns-else-can-clause-flow : goal.returns-else-can-clause-flow
returns-else-can-clause-flow g c =
    not_entered g.A.Answers.answers c.args.id c.args.message.now c.args.place.now c.args.flight.now c.args.core.now c.can_enter.new.core c.in-Some.target _ c.module_at.ensures.found c.in-Some.is c.in_ok-can.can
    c.in_ok-can.ensures.asked c.broken-else-can.result c.if-can.false c.broken-else-can.ensures
