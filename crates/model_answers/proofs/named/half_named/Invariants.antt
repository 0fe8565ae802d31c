use Rattle.std.proofs.Common.{◌≡◌, drop}
use Rattle.model_questions.specs.Gates.{half_of}
use Rattle.model_answers.proofs.named.half_named.Given as goal

abbrev pub invariant-loop-gate : goal.invariant-loop-gate
invariant-loop-gate l = half_of l.name (drop l.gate-index l.gates) ≡ half_of l.name l.gates
