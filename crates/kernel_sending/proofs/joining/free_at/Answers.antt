use Rattle.kernel_actions.proofs.Growing.{growth_on}
use Rattle.kernel_sending.proofs.Joins.{freed_on, not_freed}
use Rattle.kernel_sending.proofs.joining.free_at.Goals as goal

pub returns-then-not-leaves-clause-flow : goal.returns-then-not-leaves-clause-flow
returns-then-not-leaves-clause-flow g c =
    not_freed g.A.Answers.answers c.args.id c.args.source c.args.place.now c.args.core.now c.can_leave.new.core c.in_ok-leaves.leaves c.in_ok-leaves.ensures.asked
    c.broken.result c.if-not-leaves.true c.broken.ensures

pub returns-clause-flow : goal.returns-clause-flow
returns-clause-flow g c =
    freed_on g.A.Answers.answers c.args.id c.args.source c.args.place.now c.args.core.now c.can_leave.new.core c.in_ok-leaves.leaves c.in_ok-leaves.ensures.asked
    c.free_gate.result c.free_gate.new.core c.in_ok-gate.gate c.if-not-leaves.false c.in_ok-gate.ensures c.free_gate.ensures.flow
