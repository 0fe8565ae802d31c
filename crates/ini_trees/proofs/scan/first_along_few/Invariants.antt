use Rattle.std.proofs.Common.{◌≡◌, drop}
use Rattle.ini_trees.specs.Scans.{first_wanted}
use Rattle.ini_trees.specs.Sections.{entries_along}
use Rattle.ini_trees.proofs.scan.first_along_few.Given as goal

abbrev pub invariant-loop-name : goal.invariant-loop-name
invariant-loop-name l = first_wanted l.wanted (entries_along (drop l.name-index l.chain) l.lines) ≡ first_wanted l.wanted (entries_along l.chain l.lines)
