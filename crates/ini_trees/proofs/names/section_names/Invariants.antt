use Rattle.std.proofs.Common.{◌≡◌, [], drop}
use Rattle.ini_trees.specs.Numbers.{names_behind}
use Rattle.ini_trees.proofs.names.section_names.Given as goal

abbrev pub invariant-loop-line : goal.invariant-loop-line
invariant-loop-line l = names_behind l.names (drop l.line-index l.lines) ≡ names_behind [] l.lines
