use Rattle.std.proofs.Common.{refl}
use Rattle.model_questions.specs.Records.{place_of}
use Rattle.run_semantics.specs.Perform.{most_hops}
use Rattle.run_semantics.proofs.laws.sending_example.Goals as goal

pub returns : goal.returns
unfolding place_of most_hops
returns c = λ b. record {
  datarate = refl;
  rounded = refl;
  delayed = refl;
  busy = refl;
  over = refl;
  lost = refl;
  unconnected = refl;
  no_gate = refl;
  too_many = refl;
  none_more = refl;
  to_simple = refl;
  to_compound = refl;
  to_nobody = refl;
  to_connected = refl;
  too_late = refl;
  at_end = refl;
}
