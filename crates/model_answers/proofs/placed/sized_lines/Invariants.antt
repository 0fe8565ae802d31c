use Rattle.std.proofs.Common.{◌≡◌, ◌++◌, drop, map}
use Rattle.model_answers.specs.Lines.{sized_line}
use Rattle.model_answers.proofs.placed.sized_lines.Given as goal

abbrev pub invariant-loop-size : goal.invariant-loop-size
invariant-loop-size l = l.written ++ map sized_line (drop l.size-index l.sizes) ≡ map sized_line l.sizes
