use Rattle.std.proofs.Common.{◌≡◌, ◌≤◌, length}
use Rattle.std.specs.Option.{option_copied}
use Rattle.ini_trees.specs.Sections.{entries_from}
use Rattle.same_entries.specs.Counted.{counted, AreSaid}
use Rattle.same_entries.proofs.entries.next_counted.Given as goal

abbrev pub invariant-lines : goal.invariant-lines
invariant-lines l =
    (counted (entries_from l.name (option_copied l.section) l.lines) ≡ counted (entries_from l.name (option_copied l.within) l.left))
    × (AreSaid l.lines → AreSaid l.left)
    × (length l.left ≤ length l.lines)

abbrev pub decreases-lines : goal.decreases-lines
decreases-lines l = length l.left
