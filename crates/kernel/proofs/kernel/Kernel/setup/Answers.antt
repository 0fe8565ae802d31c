use Rattle.std.proofs.Common.{[], ap, ◌∙◌}
use Rattle.run_semantics.specs.Run.{settled}
use Rattle.kernel.proofs.Apart.{flow_with, flow_of_with, prepared_apart}
use Rattle.kernel.proofs.kernel.Kernel.setup.Goals as goal

pub returns-clause-step : goal.returns-clause-step
returns-clause-step g c =
    c.settle.ensures
    ∙ rw c.clear.ensures (ap settled (flow_of_with [] c.in_ok-turn.turn c.prepare.new.core ∙ ap (flow_with []) c.in_ok-turn.ensures ∙ prepared_apart g.A.Answers.answers))
