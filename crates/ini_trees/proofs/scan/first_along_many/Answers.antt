use Rattle.std.proofs.Common.{◌≡◌, ℕ, ◌+◌, [], ◌∷◌, List, Option, Some, drop, take, sym, ap, subst, ◌∙◌, Bor}
use Rattle.std.specs.Option.{option_copied, option_or}
use Rattle.std.proofs.lemmas.List.{drop_all, drop_more}
use Rattle.ini_trees.specs.declared.lines.IniEntry.{IniEntry}
use Rattle.ini_trees.specs.declared.lines.IniLine.{IniLine}
use Rattle.ini_trees.specs.Scans.{first_among, IsWantedAmong}
use Rattle.ini_trees.specs.Sections.{section_behind}
use Rattle.ini_trees.specs.Words.{Bytes}
use Rattle.ini_trees.proofs.ScanLaws.{among_found, among_none, among_past}
use Rattle.ini_trees.proofs.scan.first_along_many.Goals as goal
use Rattle.ini_trees.proofs.scan.first_along_many.Goals.{in-Some, in_default}

pub loop-line-preserved : goal.loop-line-preserved
loop-line-preserved c =
    let w = c.args.wanted in
    let l = c.line-item.result in
    let i = c.loop-line.line-index in
    let rest = drop (i + 1) c.args.lines.now in
    let names = c.loop-line.before.now in
    let section = option_copied c.loop-line.section in
    let found = option_copied c.loop-line.found in
    let lines : drop i c.args.lines.now ≡ l ∷ rest = drop_more c.args.lines.now i l c.loop-line-test.true ∙ ap (λ (x : IniLine). x ∷ rest) (sym c.line-item.is) in
    let here = sym (ap (λ (ls : List IniLine). option_or (first_among w names section ls) found) lines) ∙ c.loop-line.invariant in
    elim c.match-wanted_among.branch [
      | in-Some b ↦
          let e = b.in-Some.entry.now in
          let at = b.in-Some.at in
          let is = subst (λ (o : Option (ℕ × Bor IniEntry)). IsWantedAmong w names section l.meaning o) b.in-Some.is c.wanted_among.ensures in
          let past = among_found w names is.0 l rest e at found is.3 is.4 is.1 in
          let stands : section ≡ Some is.0 = is.2 in
          let step = ap (λ (s : Option Bytes). option_or (first_among w (take at names) (section_behind s l.meaning) rest) (Some e)) stands ∙ sym past ∙ ap (λ (s : Option Bytes). option_or (first_among w names s (l ∷ rest)) found) (sym stands) in
          ap (λ (o : Option (Bor IniEntry)). option_or (first_among w c.match-wanted_among.before.now (option_copied c.section_behind-section.result) rest) (option_copied o)) b.found-is
          ∙ ap (λ (ns : Bor (List Bytes)). option_or (first_among w ns.now (option_copied c.section_behind-section.result) rest) (Some e)) b.before-is
          ∙ ap (λ (s : Option Bytes). option_or (first_among w (take at names) s rest) (Some e)) c.section_behind-section.ensures
          ∙ step ∙ here
      | in_default b ↦
          let none = subst (λ (o : Option (ℕ × Bor IniEntry)). IsWantedAmong w names section l.meaning o) b.in_default.is c.wanted_among.ensures in
          ap (λ (o : Option (Bor IniEntry)). option_or (first_among w c.match-wanted_among.before.now (option_copied c.section_behind-section.result) rest) (option_copied o)) b.found-is
          ∙ ap (λ (ns : Bor (List Bytes)). option_or (first_among w ns.now (option_copied c.section_behind-section.result) rest) found) b.before-is
          ∙ ap (λ (s : Option Bytes). option_or (first_among w names s rest) found) c.section_behind-section.ensures
          ∙ ap (λ (o : Option IniEntry). option_or o found) (sym (among_past w names section l rest none)) ∙ here
    ]

pub returns : goal.returns
returns c =
    let w = c.args.wanted in
    let over : drop c.loop-line.line-index c.args.lines.now ≡ [] = drop_all c.loop-line.line-index c.args.lines.now c.loop-line-test.false in
    sym (ap (λ (ls : List IniLine). option_or (first_among w c.loop-line.before.now (option_copied c.loop-line.section) ls) (option_copied c.loop-line.found)) over ∙ among_none w c.loop-line.before.now (option_copied c.loop-line.section) (option_copied c.loop-line.found)) ∙ c.loop-line.invariant
