use Rattle.std.proofs.Common.{ap, ◌∙◌}
use Rattle.run_semantics.specs.Run.{standing}
use Rattle.kernel.specs.Kernels.{world_in}
use Rattle.checkpoint_runs.specs.Kept.{lacking_at}
use Rattle.checkpoint_runs.proofs.running.Runner.lacking_id.Goals as goal

pub returns-in-Some : goal.returns-in-Some
returns-in-Some g c = c.lacking_id.ensures ∙ ap (λ o. lacking_at o (standing (world_in (λ b. (g.dyn-1.0.entry b.vtable).1) c.args.self.now.kernel).modules)) c.in-Some.ensures.last

pub returns-in-None : goal.returns-in-None
returns-in-None g c = ap (λ o. lacking_at o (standing (world_in (λ b. (g.dyn-1.0.entry b.vtable).1) c.args.self.now.kernel).modules)) c.in-None.ensures.last
