-- what is found along the rest of the line is what is found along all of it
use Rattle.std.proofs.Common.{◌≡◌, Some, length}
use Rattle.std.specs.Option.{option_copied}
use Rattle.inside_keys.specs.Values.{inner_along}
use Rattle.inside_run.proofs.types.inner_along.Given as goal

abbrev pub invariant-loop-next : goal.invariant-loop-next
invariant-loop-next g l =
    inner_along (g.S.ModuleSource.setting l.scene) l.left (option_copied l.next) l.name
    ≡ inner_along (g.S.ModuleSource.setting l.scene) (length (g.S.ModuleSource.setting l.scene).types) (Some l.declared) l.name

abbrev pub decreases-loop-next : goal.decreases-loop-next
decreases-loop-next g l = l.left
