use Rattle.std.proofs.Common.{◌≡◌, ◌+◌, ◌≤◌, drop, length}
use Rattle.run_semantics.specs.Run.{with_submodules}
use Rattle.kernel_actions.specs.Positions.{IsGrownFrom}
use Rattle.kernel_actions.proofs.core_part.Core.create_all.Given as goal

abbrev pub invariant-loop-built : goal.invariant-loop-built
invariant-loop-built l = record {
  world : with_submodules l.parent (drop l.built-index l.inside) l.self ≡ with_submodules l.parent l.inside l.fn.self;
  there : l.parent ≤ length l.self.records;
  few : length l.self.records ≤ length l.fn.self.records + l.built-index;
  grown : IsGrownFrom l.fn.self l.self;
}
