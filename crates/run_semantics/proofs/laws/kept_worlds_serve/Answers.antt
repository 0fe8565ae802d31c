use Rattle.run_semantics.specs.Run.{after}
use Rattle.run_semantics.proofs.Ends.{gone_from}
use Rattle.run_semantics.proofs.Reuse.{after_same_up_to, reached_same_up_to}
use Rattle.run_semantics.proofs.laws.kept_worlds_serve.Goals as goal

pub returns : goal.returns
returns c = record {
  all = λ b law m n v k h a more. gone_from b n v more (after b m v) (after_same_up_to b law m n v k h a);
  reached = λ b law m n v k h e a more. gone_from b n v more (after b m v) (reached_same_up_to b law m n v k h e a);
}
