-- A module of a type without gates has none.
use Rattle.std.proofs.Common.{◌≡◌, List, [], ◌∷◌, length, Option, Some, None, refl, arith}
use Rattle.inside_keys.specs.Settings.{ModuleRules}
use Rattle.inside_keys.specs.declared.key.Module as key_module
use Rattle.inside_parts.specs.declared.gates.TypeGate.{TypeGate}
use Rattle.model_answers.specs.Insides.{gates_in}

pub no_gates_in : (s : ModuleRules) (m : key_module.Module) (around : Option key_module.Module) (gs : List TypeGate) → length gs ≡ 0 → gates_in s m around gs ≡ []
no_gates_in s m None [] e = refl
no_gates_in s m (Some a) [] e = refl
no_gates_in s m around (g ∷ gs) e = absurd (omega (arith, e))
