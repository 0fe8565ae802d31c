use Rattle.std.proofs.Common.{sym, subst}
use Rattle.ini_config.specs.Meaning.{IsSection}
use Rattle.ini_entries.specs.Texts.{Bytes}
use Rattle.ini_config.proofs.MeaningLaws.{is_section, line_told, no_line}
use Rattle.ini_config.proofs.parse.section_or_entry.Goals as goal

pub returns-in-Some : goal.returns-in-Some
returns-in-Some c =
    let said : IsSection c.args.line.now c.in_ok-from_bytes.field-0 = subst (λ (n : Bytes). IsSection c.args.line.now n) (sym c.in_ok-from_bytes.ensures) c.in-Some.ensures in
    is_section c.args.line.now c.in_ok-from_bytes.field-0 said

pub returns-in-Err-MeansNothing : goal.returns-in-Err-MeansNothing
returns-in-Err-MeansNothing c =
    let none = rw c.in-Err-MeansNothing.field-0-is at c.in-Err-MeansNothing.ensures in
    (no_line c.args.line.now c.requires c.in_default.ensures none.0, line_told c.args.line.now _ _ c.requires none.1 c.neither.ensures)
