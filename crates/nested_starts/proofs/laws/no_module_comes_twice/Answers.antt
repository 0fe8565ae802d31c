use Rattle.run_semantics.specs.Run.{after, world_at}
use Rattle.nested_starts.proofs.Apart.{called_once, finished_once}
use Rattle.nested_starts.proofs.Once.{once_after}
use Rattle.nested_starts.proofs.laws.no_module_comes_twice.Goals as goal

pub returns : goal.returns
returns c = record {
  calls = λ b m n. called_once (world_at (after b m n)) (once_after b m n);
  finishes = λ b m n. finished_once (world_at (after b m n)) (once_after b m n);
}
