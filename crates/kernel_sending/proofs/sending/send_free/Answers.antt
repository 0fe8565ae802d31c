use Rattle.kernel_actions.proofs.Growing.{growth_on}
use Rattle.kernel_sending.proofs.Asking.{entered_on, not_free}
use Rattle.kernel_sending.proofs.sending.send_free.Goals as goal

pub returns-then-taken-clause-flow : goal.returns-then-taken-clause-flow
returns-then-taken-clause-flow g c =
    not_free g.A.Answers.answers c.args.id c.args.message.now c.args.gate c.args.flight.now c.args.core.now c.is_taken.new.core c.in_ok-taken.taken c.in_ok-taken.ensures.asked
    c.broken.result c.if-taken.true c.broken.ensures

pub returns-clause-flow : goal.returns-clause-flow
returns-clause-flow g c =
    entered_on g.A.Answers.answers c.args.id c.args.message.now c.args.gate c.args.flight.now c.args.core.now c.is_taken.new.core c.in_ok-taken.taken c.in_ok-taken.ensures.asked
    c.enter.result c.enter.new.core c.clock.result c.flight_end-arrival.result c.if-taken.false c.clock.ensures c.flight_end-arrival.ensures c.enter.ensures.flow

pub returns-clause-grown : goal.returns-clause-grown
returns-clause-grown g c = growth_on c.args.core.now c.is_taken.new.core c.enter.new.core c.is_taken.ensures.grown c.enter.ensures.grown
