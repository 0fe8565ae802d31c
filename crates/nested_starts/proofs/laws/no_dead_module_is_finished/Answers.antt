use Rattle.run_semantics.specs.Run.{after, world_at}
use Rattle.nested_starts.proofs.Deleted.{ends_alone}
use Rattle.nested_starts.proofs.laws.no_dead_module_is_finished.Goals as goal

pub returns : goal.returns
returns c = λ b m n live started. ends_alone (world_at (after b m n)) live started
