use Rattle.std.proofs.Common.{◌≡◌, drop, None}
use Rattle.std.specs.Option.{option_copied}
use Rattle.ini_trees.specs.Scans.{first_wanted}
use Rattle.ini_trees.specs.Sections.{entries_from}
use Rattle.ini_trees.proofs.scan.first_under.Given as goal

abbrev pub invariant-loop-line : goal.invariant-loop-line
invariant-loop-line l = first_wanted l.wanted (entries_from l.name (option_copied l.section) (drop l.line-index l.lines)) ≡ first_wanted l.wanted (entries_from l.name None l.lines)
