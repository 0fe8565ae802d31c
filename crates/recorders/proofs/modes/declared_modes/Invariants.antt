use Rattle.std.proofs.Common.{◌≡◌, drop}
use Rattle.std.specs.Prelude.{map}
use Rattle.ned_trees.specs.declared.declarations.RecordedMode.{RecordedMode}
use Rattle.recorders.specs.Modes.{with_modes, declared_modes}
use Rattle.recorders.proofs.modes.declared_modes.Given as goal

abbrev pub invariant-loop-named : goal.invariant-loop-named
invariant-loop-named l =
    with_modes l.found (map (λ (m : RecordedMode). m.mode) (drop l.named-index l.modes)) ≡ declared_modes l.modes
