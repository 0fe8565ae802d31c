use Rattle.std.proofs.Common.{◌≡◌, ◌++◌, ◌∷◌, ◌+◌, List, Option, Some, drop, length, map, slice_get, refl, sym, ap, ◌∙◌}
use Rattle.std.proofs.lemmas.List.{drop_more}
use Rattle.std.proofs.lemmas.Option.{slice_get_read}
use Rattle.std.specs.Option.{option_copied}
use Rattle.ini_trees.specs.declared.lines.IniLine.{IniLine}
use Rattle.ini_trees.specs.Numbers.{name_at}
use Rattle.ini_trees.specs.Sections.{entries_from}
use Rattle.ini_trees.specs.Words.{Bytes}
use Rattle.ini_index.specs.Entries.{numbers_at, told}
use Rattle.ini_index.proofs.SectionLaws.{line_done}
use Rattle.ini_index.proofs.along.add_lines.Goals as goal

pub loop-number-preserved : goal.loop-number-preserved
loop-number-preserved c =
    let names = c.args.names.now in
    let lines = c.args.lines.now in
    let i = c.loop-number.number in
    let l = c.index-lines-number.result in
    let old = c.loop-number.lists in
    let new = c.add_line.new.lists in
    let section = option_copied c.loop-number.section in
    let rest : List IniLine = drop (i + 1) lines in
    let there : slice_get lines i ≡ Some l = slice_get_read lines (length lines) i l refl c.loop-number-test.true c.index-lines-number.is in
    let front : l ∷ rest ≡ drop i lines = ap (λ (x : IniLine). x ∷ rest) c.index-lines-number.is ∙ sym (drop_more lines i l c.loop-number-test.true) in
    record {
      size = c.add_line.auto.lists ∙ c.loop-number.invariant.size;
      found = λ k h.
          ap (λ (s : Option Bytes). told lines (numbers_at new k) ++ map Some (entries_from (name_at names k) s rest)) c.section_behind-section.ensures
          ∙ line_done lines (name_at names k) section i l rest (numbers_at old k) (numbers_at new k) _ there (c.in_ok-add_line.ensures k h)
          (ap (λ (ls : List IniLine). told lines (numbers_at old k) ++ map Some (entries_from (name_at names k) section ls)) front ∙ c.loop-number.invariant.found k h);
    }
