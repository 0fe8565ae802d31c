use Rattle.std.proofs.Common.{refl}
use Rattle.model_questions.specs.Records.{place_of}
use Rattle.run_semantics.specs.Perform.{most_hops}
use Rattle.run_semantics.specs.Run.{most_nested}
use Rattle.run_semantics.specs.Subtree.{inner_first, outer_first, stands_in}
use Rattle.run_semantics.specs.Upcoming.{upcoming}
use Rattle.run_semantics.proofs.laws.deletes_example.Goals as goal

pub returns : goal.returns
unfolding place_of most_hops most_nested inner_first outer_first stands_in upcoming
returns c = record {
  runs = record {
    both_to_come = refl;
    both_stand = refl;
    dead = refl;
    none_to_come = refl;
    stands = refl;
    live = refl;
    outcome = refl;
    count = refl;
    unfinished = refl;
    politely = refl;
  };
  actions = record {
    itself = refl;
    around = refl;
    another = refl;
    network = refl;
    twice = refl;
    inner_first = refl;
    to_the_dead = refl;
  };
}
