-- the chain from here, of the hops that are left, leads where the whole chain leads
use Rattle.std.proofs.Common.{◌≡◌, ◌-◌, List, []}
use Rattle.run_semantics.specs.declared.routes.PassedHop.{PassedHop}
use Rattle.run_semantics.specs.declared.routes.PlacedGate.{PlacedGate}
use Rattle.run_semantics.specs.Perform.{Flow, chain, most_hops}
use Rattle.run_semantics.specs.World.{World}
use Rattle.kernel_actions.specs.Positions.{IsGrownFrom}
use Rattle.kernel_sending.proofs.sending.follow.Given as goal

abbrev pub invariant-loop-done : goal.invariant-loop-done
invariant-loop-done g l = record {
  chain : (reached : List PassedHop → PlacedGate → World → Flow) → chain g.A.Answers.answers l.id reached (most_hops - l._done) l.place l.passed l.core ≡ chain g.A.Answers.answers l.id reached most_hops l.fn.gate [] l.fn.core;
  next : l.core.next ≡ l.fn.core.next;
  grown : IsGrownFrom l.fn.core l.core;
}
