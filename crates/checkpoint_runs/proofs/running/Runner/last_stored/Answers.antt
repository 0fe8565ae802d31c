use Rattle.std.proofs.Common.{Some, option_map, sym, ap, ◌∙◌}
use Rattle.kernel_actions.specs.declared.position.Position.{Position}
use Rattle.checkpoint_runs.proofs.Counting.{last_count_is}
use Rattle.checkpoint_runs.proofs.running.Runner.last_stored.Goals as goal

pub returns-in-Some : goal.returns-in-Some
returns-in-Some g c = ap Some c.count.ensures ∙ ap (option_map (λ (p : Position). p.count)) c.in-Some.ensures.last ∙ sym (last_count_is c.args.self.now.positions.stored)

pub returns-in-None : goal.returns-in-None
returns-in-None g c = ap (option_map (λ (p : Position). p.count)) c.in-None.ensures.last ∙ sym (last_count_is c.args.self.now.positions.stored)
