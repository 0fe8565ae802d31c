use Rattle.std.proofs.Common.{refl}
use Rattle.model_questions.specs.Records.{place_of}
use Rattle.run_semantics.specs.Run.{most_nested}
use Rattle.run_semantics.specs.Subtree.{inner_first, outer_first}
use Rattle.run_semantics.proofs.laws.nested_example.Goals as goal

pub returns : goal.returns
unfolding place_of most_nested inner_first outer_first
returns c = record { setup = refl; calls = refl; finishes = refl }
