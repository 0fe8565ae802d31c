use Rattle.std.proofs.Common.{refl, sym, ◌∙◌}
use Rattle.ini_entries.specs.Options.{word_extends}
use Rattle.ini_entries.specs.Texts.{items_of}
use Rattle.ini_trees.specs.declared.entry.EntryMeaning.TheVariants as meaning
use Rattle.ini_entries.proofs.EntryLaws.{no_extends, only_meaning}
use Rattle.ini_entries.proofs.OptionLaws.{names_found}
use Rattle.ini_entries.proofs.meaning.extends_meaning.Goals as goal

pub returns-in-None : goal.returns-in-None
returns-in-None c = (no_extends c.args.value.now (sym c.in_ok-config_names.ensures ∙ c.in-None.is), refl)

pub returns-in-Some : goal.returns-in-Some
returns-in-Some c =
    let found = names_found (items_of c.args.value.now) c.in-Some.names (sym c.in_ok-config_names.ensures ∙ c.in-Some.is) in
    only_meaning word_extends c.args.value.now (meaning.Extends c.in-Some.names) (refl, found.0, found.1)
