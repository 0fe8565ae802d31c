-- Keys are compared as the definition says.
use Rattle.std.proofs.Common.{◌≡◌, Bool, ap, sym}
use mathlib.Core.Path.{fun_ext}
use Rattle.param_engine.specs.Tables.{Entries, known}
use Rattle.param_engine.specs.Working.{ruled}
use Rattle.sim_values.specs.declared.model_fault.ModelFault.TheVariants as fault
use Rattle.sim_values.specs.declared.value_fault.ValueFault.TheVariants.{Circle}
use Rattle.inside_keys.specs.declared.found.Found.{Found}
use Rattle.inside_keys.specs.declared.key.Key.{Key}
use Rattle.inside_keys.specs.Keys.{same_key}
use Rattle.inside_keys.specs.Settings.{ModuleRules}
use Rattle.inside_keys.specs.Values.{asking_of, rules_of}
use Rattle.inside_run.specs.Same.{alike, equal}

pub rules_alike : (s : ModuleRules) → ruled equal (asking_of s) (fault.Value Circle) ≡ rules_of s
rules_alike s = ap (λ (e : Key → Key → Bool). ruled e (asking_of s) (fault.Value Circle)) (fun_ext (λ a. fun_ext (λ b. alike a b)))

pub known_alike : (es : Entries Key Found) (k : Key) → known same_key es k ≡ known equal es k
known_alike es k = ap (λ (e : Key → Key → Bool). known e es k) (fun_ext (λ a. fun_ext (λ b. sym (alike a b))))
