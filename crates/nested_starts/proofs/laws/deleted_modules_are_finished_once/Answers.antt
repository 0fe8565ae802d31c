use Rattle.run_semantics.specs.Run.{after, world_at}
use Rattle.run_semantics.proofs.Fitting.{fits_after}
use Rattle.nested_starts.proofs.Apart.{deleted_once}
use Rattle.nested_starts.proofs.Deleted.{all_finished_first, those_alone}
use Rattle.nested_starts.proofs.Kept.{within_after}
use Rattle.nested_starts.proofs.Once.{once_after}
use Rattle.nested_starts.proofs.laws.deleted_modules_are_finished_once.Goals as goal

pub returns : goal.returns
returns c = record {
  all = λ b m n id live. all_finished_first (world_at (after b m n)) id (fits_after b m n) (within_after b m n) live;
  alone = λ b m n id live. those_alone (world_at (after b m n)) id live;
  once = λ b m n id. deleted_once (world_at (after b m n)) id (once_after b m n);
}
