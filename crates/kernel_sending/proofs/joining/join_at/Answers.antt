use Rattle.kernel_actions.proofs.Growing.{growth_on}
use Rattle.kernel_sending.proofs.Joins.{both_there, not_in, not_out}
use Rattle.kernel_sending.proofs.joining.join_at.Goals as goal

pub returns-then-not-leaves-clause-flow : goal.returns-then-not-leaves-clause-flow
returns-then-not-leaves-clause-flow g c =
    not_out g.A.Answers.answers c.args.id c.args.source c.args.target c.args.from.now c.args.to.now c.args.link.now c.args.core.now c.can_leave.new.core c.in_ok-leaves.leaves c.in_ok-leaves.ensures.asked
    c.broken.result c.if-not-leaves.true c.broken.ensures

pub returns-in_err-enters-clause-grown : goal.returns-in_err-enters-clause-grown
returns-in_err-enters-clause-grown g c = growth_on c.args.core.now c.can_leave.new.core c.can_enter.new.core c.can_leave.ensures.grown c.can_enter.ensures.grown

pub returns-then-not-enters-clause-flow : goal.returns-then-not-enters-clause-flow
returns-then-not-enters-clause-flow g c =
    not_in g.A.Answers.answers c.args.id c.args.source c.args.target c.args.from.now c.args.to.now c.args.link.now c.args.core.now c.can_leave.new.core c.in_ok-leaves.leaves c.in_ok-leaves.ensures.asked
    c.can_enter.new.core c.in_ok-enters.enters c.in_ok-enters.ensures.asked c.broken-then-not-enters.result c.if-not-leaves.false c.if-not-enters.true c.broken-then-not-enters.ensures

pub returns-in_err-from-clause-grown : goal.returns-in_err-from-clause-grown
returns-in_err-from-clause-grown g c = growth_on c.args.core.now c.can_leave.new.core c.can_enter.new.core c.can_leave.ensures.grown c.can_enter.ensures.grown

pub returns-clause-flow : goal.returns-clause-flow
returns-clause-flow g c =
    both_there g.A.Answers.answers c.args.id c.args.source c.args.target c.args.from.now c.args.to.now c.args.link.now c.args.core.now c.can_leave.new.core c.in_ok-leaves.leaves c.in_ok-leaves.ensures.asked
    c.can_enter.new.core c.in_ok-enters.enters c.in_ok-enters.ensures.asked c.join_gates.result c.join_gates.new.core c.in_ok-from.from c.in_ok-to.to c.if-not-leaves.false c.if-not-enters.false
    c.in_ok-from.ensures c.in_ok-to.ensures c.join_gates.ensures.flow
