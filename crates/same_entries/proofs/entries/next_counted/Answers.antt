use Rattle.std.proofs.Common.{◌≡◌, ◌<◌, ◌∷◌, ◌∙◌, length, List, ℕ, Option, sym, ap, subst, Bor}
use Rattle.std.specs.List.{cons_option}
use Rattle.std.specs.Option.{option_copied}
use Rattle.ini_entries.specs.Meaning.{IsEntryMeaning}
use Rattle.ini_trees.specs.declared.lines.IniEntry.{IniEntry}
use Rattle.ini_trees.specs.Sections.{entries_from}
use Rattle.same_entries.specs.Counted.{counted, AreSaid}
use Rattle.same_entries.proofs.Counting.{is_next}
use Rattle.same_entries.proofs.entries.next_counted.Goals as goal

pub returns-in-Some-counted_in : goal.returns-in-Some-counted_in
returns-in-Some-counted_in c =
    let v = c.lines.invariant in
    let e = c.in-Some-counted_in.entry.now in
    let rest = c.in-Some.rest.now in
    let section = option_copied c.args.section in
    subst
    (λ (s : Option (List ℕ)). (counted (entries_from c.args.name.now section c.args.lines.now) ≡ e ∷ counted (entries_from c.args.name.now s rest))
    × (AreSaid c.args.lines.now → IsEntryMeaning e.key e.value e.meaning × AreSaid rest) × (length rest < length c.args.lines.now))
    (sym c.section_behind-behind.ensures)
    (is_next c.args.name.now section (option_copied c.lines.within) c.args.lines.now c.lines.left.now rest c.in-Some.line.now e v.0 v.1 v.2 c.in-Some.ensures.cases.0
    (λ es. c.counted_in.ensures es ∙ ap (λ (o : Option (Bor IniEntry)). cons_option (option_copied o) (counted es)) c.in-Some-counted_in.is))
