use Rattle.std.proofs.Common.{◌≡◌, Option, Some, sym, ap, subst}
use Rattle.std.specs.Option.{option_copied}
use Rattle.ini_trees.specs.Said.{Notes}
use Rattle.ini_trees.specs.Words.{Bytes}
use Rattle.ini_trees.proofs.SaidLaws.{notes_nothing, says_of_none}
use Rattle.ini_trees.proofs.bases.note.Goals as goal

pub returns-in_default-number_of : goal.returns-in_default-number_of
returns-in_default-number_of c =
    let names = c.args.names.now in
    let m = c.args.line.now.meaning in
    let section : Some c.in-Some-section.name.now ≡ option_copied c.args.section = ap option_copied (sym c.in-Some-section.is) in
    subst (λ (s : Option Bytes). Notes names s m c.args.said.now c.args.said.now) section
    (notes_nothing names (Some c.in-Some-section.name.now) m c.args.said.now (says_of_none names c.in-Some-section.name.now m c.in_default-number_of.ensures))
