use Rattle.std.proofs.Common.{◌≡◌, ◌++◌, [], List, ℕ, ap, sym, ◌∙◌, append-nil}
use Rattle.ini_trees.specs.Numbers.{holds}
use Rattle.ini_trees.specs.Sections.{entries_under}
use Rattle.ini_trees.specs.Words.{Bytes}
use Rattle.result_lines.specs.Sections.{entries_at, EntryLists}
use Rattle.result_lines.proofs.HeaderLaws.{section_done}
use Rattle.result_lines.proofs.SectionLaws.{none_under}
use Rattle.result_lines.proofs.header.push_entries.Goals as goal
use Rattle.result_lines.proofs.header.push_entries.Goals.{in-Some, in_default}

pub loop-name-preserved : goal.loop-name-preserved
loop-name-preserved c =
    let chain = c.args.chain.now in
    let lines = c.args.lines.now in
    let names = c.in_ok-names.names in
    let i = c.loop-name.name-index in
    let name = c.name-item.result in
    let old = c.loop-name.header in
    let new = c.match-number_of.header in
    elim c.match-number_of.branch [
      | in-Some w ↦
          section_done old new _ (entries_at w.as_slice.result.now w.in-Some.number) name i chain lines c.loop-name-test.true c.name-item.is
          (w.header-is ∙ w.push_section.ensures)
          (ap (λ (ls : EntryLists). entries_at ls w.in-Some.number) w.as_slice.ensures.value
          ∙ c.in_ok-lists.ensures.1 w.in-Some.number w.in-Some.ensures.0
          ∙ ap (λ (n : Bytes). entries_under n lines) (w.in-Some.ensures.1 ∙ c.as_bytes.ensures))
          c.loop-name.invariant
      | in_default w ↦
          section_done old new _ [] name i chain lines c.loop-name-test.true c.name-item.is
          (w.header-is ∙ sym (append-nil old))
          (sym (none_under name lines names c.in_ok-names.ensures (ap (holds names) (sym c.as_bytes.ensures) ∙ w.in_default.ensures)))
          c.loop-name.invariant
    ]
