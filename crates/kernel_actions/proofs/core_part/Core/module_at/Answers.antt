use Rattle.std.proofs.Common.{ap, ◌∙◌}
use Rattle.run_semantics.specs.Routes.{module_at}
use Rattle.run_semantics.specs.World.{World}
use Rattle.kernel_actions.proofs.Living.{first_created}
use Rattle.kernel_actions.proofs.core_part.Core.module_at.Goals as goal

pub returns-clause-there : goal.returns-clause-there
returns-clause-there c = first_created c.args.path.now c.args.self.now c.first_at.result (c.first_at.ensures ∙ ap (λ (w : World). module_at c.args.path.now w) c.self.view_is)
