-- What is asked of a submodule whose type is wanted.
use Rattle.std.proofs.Common.{◌≡◌, Bor, Err, ap, ◌∙◌}
use Rattle.param_following.specs.Asking.{Ask, Done}
use Rattle.ned_trees.specs.declared.declarations.Submodule.{Submodule}
use Rattle.ned_trees.specs.declared.declarations.TypeDeclaration.{TypeDeclaration}
use Rattle.sim_values.specs.declared.model_fault.ModelFault.TheVariants.{UnknownType}
use Rattle.inside_keys.specs.declared.key.Key.{Key}
use Rattle.inside_keys.specs.declared.key.Module.{Module}
use Rattle.inside_keys.specs.Asked.{ask_then, truth_then}
use Rattle.inside_keys.specs.Settings.{ModuleRules}
use Rattle.inside_keys.specs.Values.{indexed_type}
use Rattle.inside_run.specs.Going.{goes_on}
use Rattle.inside_run.specs.declared.progress.KeyProgress.TheVariants as waits

-- the condition of one that stands there
pub condition_asked : (s : ModuleRules) (k j : Key) (m n a b : Module) (t : Bor TypeDeclaration) (l : Bor Submodule) → k ≡ j → m ≡ n → a ≡ b
    → Ask k (goes_on s (waits.TypeCondition m a t l)) ≡ ask_then j (λ v. truth_then v (indexed_type s n b t.now l.now) (Done (Err UnknownType)))
condition_asked s k j m n a b t l e f h =
    ap (λ (x : Key). Ask x (goes_on s (waits.TypeCondition m a t l))) e
    ∙ ap (λ (x : Module). Ask j (goes_on s (waits.TypeCondition x a t l))) f
    ∙ ap (λ (x : Module). Ask j (goes_on s (waits.TypeCondition n x t l))) h
