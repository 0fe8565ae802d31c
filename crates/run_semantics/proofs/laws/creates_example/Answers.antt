use Rattle.std.proofs.Common.{refl}
use Rattle.model_questions.specs.Records.{place_of}
use Rattle.run_semantics.specs.Perform.{most_hops}
use Rattle.run_semantics.specs.Run.{most_nested}
use Rattle.run_semantics.specs.Subtree.{inner_first, outer_first, stands_in}
use Rattle.run_semantics.specs.Upcoming.{upcoming}
use Rattle.module_api.specs.Names.{is_head_word, is_section_word, is_member_word, is_value_word}
use Rattle.run_semantics.proofs.laws.creates_example.Goals as goal

pub returns : goal.returns
unfolding place_of most_hops most_nested inner_first outer_first stands_in upcoming is_head_word is_section_word is_member_word is_value_word
returns c = record {
  runs = record {
    at_first = refl;
    after_one = refl;
    after_two = refl;
    both_to_come = refl;
    after_three = refl;
    to_come = refl;
    dead = refl;
    stands = refl;
    live = refl;
    outcome = refl;
    count = refl;
    left = refl;
    unfinished = refl;
    politely = refl;
  };
  actions = record {
    no_name = refl;
    no_word = refl;
    namesake = refl;
    in_simple = refl;
    in_none = refl;
    deepest = refl;
    too_deep = refl;
    two_starts = refl;
    never_started = refl;
  };
}
