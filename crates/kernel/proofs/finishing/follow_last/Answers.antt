use Rattle.std.proofs.Common.{ap, ◌∙◌, arith}
use Rattle.run_semantics.specs.World.{World}
use Rattle.run_semantics.proofs.Sound.{ask_noted-next}
use Rattle.kernel.proofs.finishing.follow_last.Goals as goal

pub act_few-requires : goal.act_few-requires
act_few-requires g c = omega (arith, c.requires.next, ap (λ (w : World). w.next) c.in_ok-ask_noted.ensures.noted ∙ ask_noted-next c.args.occasion c.args.call.now.id c.as_slice-reads.result.now c.args.core.now)
