use Rattle.std.proofs.Common.{◌≡◌, drop}
use Rattle.std.specs.Prelude.{map}
use Rattle.ini_entries.specs.Options.{config_names}
use Rattle.ini_entries.specs.Texts.{items_of, trimmed}
use Rattle.ini_entries.proofs.OptionLaws.{joined}
use Rattle.ini_entries.proofs.options.config_names.Given as goal

abbrev pub invariant-loop-part : goal.invariant-loop-part
invariant-loop-part l = joined l.names (config_names (map trimmed (map (λ p. p.now) (drop l.part-index l.part-items)))) ≡ config_names (items_of l.bytes)
