use Rattle.std.proofs.Common.{refl, sym, ◌∙◌}
use Rattle.ini_entries.specs.Options.{word_modes}
use Rattle.ini_entries.proofs.OptionLaws.{no_modes, only_option}
use Rattle.ini_trees.specs.declared.entry.ObjectOption.TheVariants as object
use Rattle.ini_entries.proofs.options.modes_option.Goals as goal

pub returns-in-None : goal.returns-in-None
returns-in-None c = (no_modes c.args.bytes.now (sym c.in_ok-mode_items.ensures ∙ c.in-None.is), refl)

pub returns-in-Some : goal.returns-in-Some
returns-in-Some c = only_option word_modes c.args.bytes.now (object.Modes c.in-Some.items) (refl, sym c.in_ok-mode_items.ensures ∙ c.in-Some.is)
