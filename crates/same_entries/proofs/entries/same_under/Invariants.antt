use Rattle.std.proofs.Common.{◌≡◌, length, None}
use Rattle.std.specs.Option.{option_copied}
use Rattle.ini_trees.specs.Sections.{entries_from}
use Rattle.same_entries.specs.Counted.{counted, AreSaid}
use Rattle.same_entries.proofs.entries.same_under.Given as goal

-- where what is left is the same all is
abbrev pub invariant-entries : goal.invariant-entries
invariant-entries l =
    (AreSaid l.one → AreSaid l.left)
    × (AreSaid l.other → AreSaid l.right)
    × (AreSaid l.one → AreSaid l.other
    → counted (entries_from l.name (option_copied l.section) l.left) ≡ counted (entries_from l.name (option_copied l.other_section) l.right)
    → counted (entries_from l.name None l.one) ≡ counted (entries_from l.name None l.other))

abbrev pub decreases-entries : goal.decreases-entries
decreases-entries l = length l.left
