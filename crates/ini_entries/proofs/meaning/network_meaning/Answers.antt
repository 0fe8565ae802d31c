use Rattle.std.proofs.Common.{refl, sym, ◌∙◌}
use Rattle.ini_entries.specs.Options.{word_network}
use Rattle.ini_trees.specs.declared.entry.EntryMeaning.TheVariants as meaning
use Rattle.ini_entries.proofs.EntryLaws.{no_network, only_meaning}
use Rattle.ini_entries.proofs.meaning.network_meaning.Goals as goal

pub returns-in_ok-from_bytes : goal.returns-in_ok-from_bytes
returns-in_ok-from_bytes c = only_meaning word_network c.args.value.now (meaning.Network c.in_ok-from_bytes.field-0) (refl, c.in_ok-from_bytes.ensures, sym c.is_dotted_name.ensures ∙ c.if-is_dotted_name.true)

pub returns-else-is_dotted_name : goal.returns-else-is_dotted_name
returns-else-is_dotted_name c = (no_network c.args.value.now (sym c.is_dotted_name.ensures ∙ c.if-is_dotted_name.false), refl)
