use Rattle.std.proofs.Common.{◌≡◌, drop}
use Rattle.std.specs.Option.{option_copied, option_or}
use Rattle.ini_trees.specs.Scans.{first_among, first_wanted}
use Rattle.ini_trees.specs.Sections.{entries_along}
use Rattle.ini_trees.proofs.scan.first_along_many.Given as goal

abbrev pub invariant-loop-line : goal.invariant-loop-line
invariant-loop-line l =
    option_or (first_among l.wanted l.before (option_copied l.section) (drop l.line-index l.lines)) (option_copied l.found) ≡ first_wanted l.wanted (entries_along l.chain l.lines)
