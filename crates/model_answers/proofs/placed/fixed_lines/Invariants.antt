use Rattle.std.proofs.Common.{◌≡◌, ◌++◌, drop, map}
use Rattle.model_answers.specs.Lines.{fixed_line}
use Rattle.model_answers.proofs.placed.fixed_lines.Given as goal

abbrev pub invariant-loop-value : goal.invariant-loop-value
invariant-loop-value l = l.written ++ map fixed_line (drop l.value-index l.values) ≡ map fixed_line l.values
