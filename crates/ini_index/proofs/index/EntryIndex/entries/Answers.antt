use Rattle.ini_trees.specs.Sections.{entries_along}
use Rattle.ini_index.proofs.NumberLaws.{lent_entries, lent_own}
use Rattle.ini_index.proofs.index.EntryIndex.entries.Goals as goal

pub new-requires : goal.new-requires
new-requires c = lent_own c.args.lines.now (entries_along c.args.chain.now c.args.lines.now) c.args.self.now.numbers c.as_slice.result.now c.as_slice.ensures c.requires.numbers_are

pub returns : goal.returns
returns c = lent_entries c.args.lines.now (entries_along c.args.chain.now c.args.lines.now) c.new.result c.args.self.now.numbers c.as_slice.result.now c.as_slice.ensures c.requires.numbers_are c.new.ensures
