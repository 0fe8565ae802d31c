use Rattle.std.proofs.Common.{Some, option_map, sym, ap, ◌∙◌}
use Rattle.kernel_actions.specs.declared.position.Position.{Position}
use Rattle.kernel.specs.Kernels.{world_in}
use Rattle.checkpoint_runs.specs.Kept.{cut_to_last}
use Rattle.checkpoint_runs.proofs.Counting.{last_count_is}
use Rattle.checkpoint_runs.proofs.running.Runner.cut_back.Goals as goal

pub returns-clause-last : goal.returns-clause-last
returns-clause-last g c =
    ap Some c.count.ensures ∙ ap (option_map (λ (p : Position). p.count)) c.in-Some.ensures.last ∙ sym (last_count_is c.args.self.now.positions.stored)

pub returns-clause-world : goal.returns-clause-world
returns-clause-world g c =
    c.cut_back.ensures.world ∙ ap (λ p. cut_to_last p (world_in (λ b. (g.dyn-1.0.entry b.vtable).1) c.args.self.now.kernel)) c.in-Some.ensures.last
