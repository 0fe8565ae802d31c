use Rattle.std.proofs.Common.{List, length, refl, subst, ◌∙◌}
use Rattle.ini_trees.specs.declared.lines.IniEntry.{IniEntry}
use Rattle.ini_trees.specs.Sections.{entries_along}
use Rattle.ini_index.specs.Indexed.{AreNotedFrom}
use Rattle.ini_index.proofs.Noted.{none_noted}
use Rattle.ini_index.proofs.NumberLaws.{lent_entries, lent_own}
use Rattle.ini_index.proofs.index.EntryIndex.new.Goals as goal

pub new-entries-requires : goal.new-entries-requires
new-entries-requires c = lent_own c.args.lines.now (entries_along c.args.chain.now c.args.lines.now) c.in_ok-numbers.numbers c.as_slice.result.now c.as_slice.ensures c.in_ok-numbers.ensures

pub note_all-requires : goal.note_all-requires
note_all-requires c = none_noted (length c.new-entries.result) c.new-entries.result c.new-heads.result c.in_ok-nexts.nexts refl c.new-heads.ensures.empty (c.in_ok-nexts.ensures ∙ c.len.ensures)

pub returns : goal.returns
returns c = record {
  numbers_are = c.in_ok-numbers.ensures;
  noted =
      subst (λ (es : List IniEntry). AreNotedFrom 0 es c.note_all.new.heads c.note_all.new.nexts)
      (lent_entries c.args.lines.now (entries_along c.args.chain.now c.args.lines.now) c.new-entries.result c.in_ok-numbers.numbers c.as_slice.result.now c.as_slice.ensures c.in_ok-numbers.ensures c.new-entries.ensures)
      c.in_ok-note_all.ensures;
}
