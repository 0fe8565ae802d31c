use Rattle.std.proofs.lemmas.Result.{err_from_is_err_and}
use Rattle.ini_trees.specs.declared.entry.EntryMeaning.TheVariants as meaning
use Rattle.ini_entries.proofs.EntryLaws.{only_meaning, refused_type}
use Rattle.ini_entries.proofs.meaning.type_meaning.Goals as goal

pub returns-in_err-pattern_and_value : goal.returns-in_err-pattern_and_value
returns-in_err-pattern_and_value c =
    let p = err_from_is_err_and c.from_residual.result c.from_residual.ensures.1 in
    rw (p.1, p.2) (refused_type c.args.key.now c.args.value.now _ c.requires.kind c.in_err-pattern_and_value.ensures)

pub returns : goal.returns
returns c = only_meaning c.args.key.now c.args.value.now (meaning.Type c.in_ok-pattern_and_value.field-0) (c.requires.kind, c.in_ok-pattern_and_value.ensures.0)
