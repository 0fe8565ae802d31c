use Rattle.std.proofs.Common.{◌≡◌, ◌++◌, drop}
use Rattle.ini_trees.proofs.lines.IniText.copy.Given as goal

abbrev pub invariant-loop-line : goal.invariant-loop-line
invariant-loop-line l = l.lines ++ drop l.line-index l.line-items ≡ l.self
