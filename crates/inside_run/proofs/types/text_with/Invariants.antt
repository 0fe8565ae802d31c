-- what is found along the rest of the line is what is found along all of it
use Rattle.std.proofs.Common.{◌≡◌}
use Rattle.std.specs.Option.{option_copied}
use Rattle.inside_keys.specs.Values.{last_with, text_with}
use Rattle.inside_run.proofs.types.text_with.Given as goal

abbrev pub invariant-loop-next : goal.invariant-loop-next
invariant-loop-next g l =
    last_with (g.S.ModuleSource.setting l.scene) l.left l.found (option_copied l.next) l.name
    ≡ text_with (g.S.ModuleSource.setting l.scene) l.declared l.name

abbrev pub decreases-loop-next : goal.decreases-loop-next
decreases-loop-next g l = l.left
