use Rattle.std.proofs.Common.{◌≡◌, drop, map}
use Rattle.ned_trees.specs.declared.declarations.Submodule.{Submodule}
use Rattle.model_settings.specs.Standings.{names_behind}
use Rattle.model_settings.proofs.tables.add_submodules.Given as goal

abbrev pub invariant-loop-submodule : goal.invariant-loop-submodule
invariant-loop-submodule l =
    names_behind l.names (map (λ (s : Submodule). s.name) (drop l.submodule-index l.submodules)) ≡ names_behind l.fn.names (map (λ (s : Submodule). s.name) l.submodules)
