use Rattle.std.proofs.Common.{◌≡◌, drop}
use Rattle.run_semantics.specs.Perform.{read_fault}
use Rattle.kernel.proofs.from_model.read_fault.Given as goal

abbrev pub invariant-loop-place : goal.invariant-loop-place
invariant-loop-place g l = read_fault g.A.Answers.answers l.core.records l.call.id (drop l.place l.reads) ≡ read_fault g.A.Answers.answers l.core.records l.call.id l.reads
