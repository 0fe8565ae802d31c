use Rattle.std.proofs.Common.{◌≡◌, None}
use Rattle.std.specs.Option.{option_copied}
use Rattle.ini_trees.specs.Sections.{entries_from}
use Rattle.same_entries.specs.Counted.{counted}
use Rattle.same_entries.proofs.Counting.{both_next}
use Rattle.same_entries.proofs.entries.same_under.Goals as goal

pub entries-preserved : goal.entries-preserved
entries-preserved c =
    let a = c.in-Some.first in
    let b = c.in-Some-next_counted.second in
    let v = c.entries.invariant in
    both_next c.args.name.now (option_copied c.entries.section) (option_copied c.entries.other_section) (option_copied a.section) (option_copied b.section)
    c.entries.left.now c.entries.right.now a.rest.now b.rest.now c.args.one.now c.args.other.now a.entry.now b.entry.now
    (counted (entries_from c.args.name.now None c.args.one.now) ≡ counted (entries_from c.args.name.now None c.args.other.now))
    c.in-Some.ensures.0 c.in-Some-next_counted.ensures.0 c.in-Some.ensures.1 c.in-Some-next_counted.ensures.1
    (c.are_same.ensures.key c.if-not-are_same.false) (c.are_same.ensures.value c.if-not-are_same.false)
    v.0 v.1 v.2
