use Rattle.std.proofs.Common.{◌≡◌, drop}
use Rattle.ini_trees.specs.Sections.{entries_along}
use Rattle.same_entries.specs.Counted.{counted, AreSaid}
use Rattle.same_entries.proofs.entries.same_along.Given as goal

-- where they are the same in the sections that are left they are in all
abbrev pub invariant-loop-name : goal.invariant-loop-name
invariant-loop-name l = AreSaid l.one → AreSaid l.other
    → counted (entries_along (drop l.name-index l.chain) l.one) ≡ counted (entries_along (drop l.name-index l.chain) l.other)
    → counted (entries_along l.chain l.one) ≡ counted (entries_along l.chain l.other)
