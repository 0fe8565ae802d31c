use Rattle.std.proofs.Common.{◌≡◌, drop}
use Rattle.run_semantics.specs.Perform.{ask_all}
use Rattle.kernel_actions.specs.Positions.{IsGrownFrom}
use Rattle.kernel_actions.proofs.core_part.Core.ask_all.Given as goal

abbrev pub invariant-loop-place : goal.invariant-loop-place
invariant-loop-place l = record {
  noted : ask_all l.id (drop l.place l.reads) l.self ≡ ask_all l.id l.reads l.fn.self;
  grown : IsGrownFrom l.fn.self l.self;
}
