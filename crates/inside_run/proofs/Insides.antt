-- How much an inside asks at most.
use Rattle.std.proofs.Common.{◌≡◌, ℕ, ◌+◌, ◌*◌, List, [], ◌∷◌, refl, ap, ◌∙◌}
use Rattle.ned_trees.specs.declared.declarations.Submodule.{Submodule}
use Rattle.ned_trees.specs.declared.declarations.TypeDeclaration.{TypeDeclaration}
use Rattle.inside_parts.specs.declared.gates.TypeGates.{TypeGates}
use Rattle.inside_keys.specs.Settings.{ModuleRules, type_gates}
use Rattle.inside_walk.specs.declared.task.Ground.{Ground}
use Rattle.inside_walk.specs.Weights.{of_items, of_submodule, of_submodules, of_type_gates, of_typed, of_types}
use Rattle.inside_run.specs.Runs.{begun_load}
use Rattle.inside_run.specs.Weights.{inside_weight, submodules_weight}

submodules_weigh : (g : Ground) (ls : List Submodule) → of_submodules g ls ≡ submodules_weight (of_typed g) ls
submodules_weigh g [] = refl
submodules_weigh g (l ∷ ls) = ap (λ n. of_submodule g + n + 2) (submodules_weigh g ls)

-- the ground has what the setting has
pub begun_weighs : (s : ModuleRules) (g : Ground) (t : TypeDeclaration) → g.types.now ≡ s.types → g.gates.now ≡ type_gates s → begun_load g t ≡ inside_weight s t
begun_weighs s g t e h =
    ap (λ n. of_type_gates g.gates.now + n + of_items t.connections.items + 1000000 * of_items t.connections.items) (submodules_weigh g t.submodules)
    ∙ ap (λ ts. by ts g.gates.now) e ∙ ap (λ gs. by s.types gs) h
  where
    by : List TypeDeclaration → List TypeGates → ℕ
    by ts gs = of_type_gates gs + submodules_weight (of_types ts + of_type_gates gs + 3) t.submodules + of_items t.connections.items + 1000000 * of_items t.connections.items
