use Rattle.std.proofs.Common.{refl}
use Rattle.model_questions.specs.Records.{place_of}
use Rattle.run_semantics.specs.Perform.{most_hops}
use Rattle.run_semantics.specs.Run.{most_nested}
use Rattle.run_semantics.specs.Subtree.{inner_first, outer_first}
use Rattle.run_semantics.specs.Upcoming.{upcoming}
use Rattle.run_semantics.proofs.laws.wires_example.Goals as goal

pub returns : goal.returns
unfolding place_of most_hops most_nested inner_first outer_first upcoming
returns c = record {
  runs = record {
    outcome = refl;
    heard = refl;
  };
  actions = record {
    joined_twice = refl;
    joined_again = refl;
    freed_twice = refl;
    freed_first = refl;
    direct = refl;
    no_gate = refl;
    from_nobody = refl;
    to_nobody = refl;
    ended = refl;
  };
}
