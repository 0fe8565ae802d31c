use Rattle.std.proofs.Common.{sym, ap, ◌∙◌, option_copied}
use Rattle.ini_trees.specs.Scans.{first_wanted}
use Rattle.ini_trees.specs.Sections.{entries_under}
use Rattle.ini_trees.specs.Words.{Bytes}
use Rattle.ini_trees.proofs.ScanLaws.{said_first, said_behind, wanted_along}
use Rattle.ini_trees.proofs.scan.first_along_few.Goals as goal

pub returns-in-Some : goal.returns-in-Some
returns-in-Some c =
    let along = wanted_along c.args.wanted c.args.lines.now c.args.chain.now c.loop-name.name-index c.name-item.result c.loop-name-test.true in
    let here = c.first_under.ensures ∙ ap (λ (n : Bytes). first_wanted c.args.wanted (entries_under n c.args.lines.now)) (c.as_bytes.ensures ∙ c.name-item.is) in
    said_first _ _ _ _ _ (ap option_copied (sym c.in-Some.is) ∙ here) along c.loop-name.invariant

pub loop-name-preserved : goal.loop-name-preserved
loop-name-preserved c =
    let along = wanted_along c.args.wanted c.args.lines.now c.args.chain.now c.loop-name.name-index c.name-item.result c.loop-name-test.true in
    let here = c.first_under.ensures ∙ ap (λ (n : Bytes). first_wanted c.args.wanted (entries_under n c.args.lines.now)) (c.as_bytes.ensures ∙ c.name-item.is) in
    said_behind _ _ _ _ (ap option_copied (sym c.in_default.is) ∙ here) along c.loop-name.invariant
