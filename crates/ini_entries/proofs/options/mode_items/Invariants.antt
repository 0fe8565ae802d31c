use Rattle.std.proofs.Common.{◌≡◌, drop}
use Rattle.std.specs.Prelude.{map}
use Rattle.ini_entries.specs.Options.{mode_items}
use Rattle.ini_entries.specs.Texts.{items_of, trimmed}
use Rattle.ini_entries.proofs.OptionLaws.{joined}
use Rattle.ini_entries.proofs.options.mode_items.Given as goal

abbrev pub invariant-loop-part : goal.invariant-loop-part
invariant-loop-part l = joined l.items (mode_items (map trimmed (map (λ p. p.now) (drop l.part-index l.part-items)))) ≡ mode_items (items_of l.bytes)
