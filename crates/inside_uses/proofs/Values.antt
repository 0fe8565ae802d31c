-- A parameter has the value of an expression, if any.
use Rattle.std.proofs.Common.{List, ℕ, Option, Some, None, Result, Ok, Err}
use Rattle.std.specs.Prelude.{slice_get}
use Rattle.param_eval.specs.Values.{valued}
use Rattle.ned_types.specs.Flat.{submodule_named}
use Rattle.ned_trees.specs.declared.declarations.SubmoduleBody.{SubmoduleBody}
use Rattle.ned_trees.specs.declared.declarations.TypeDeclaration.{TypeDeclaration}
use Rattle.sim_values.specs.declared.model_fault.ModelFault.{ModelFault}
use Rattle.sim_values.specs.declared.value.Value.{Value}
use Rattle.inside_keys.specs.declared.found.Found.{Found}
use Rattle.inside_keys.specs.declared.key.Module.{Module}
use Rattle.inside_keys.specs.declared.key.What.TheVariants as what
use Rattle.inside_keys.specs.Asked.{KeyAsking}
use Rattle.inside_keys.specs.Checks.{checked}
use Rattle.inside_keys.specs.Given.{parameter_posed}
use Rattle.inside_keys.specs.Keys.{key}
use Rattle.inside_keys.specs.Places.{meant_under}
use Rattle.inside_keys.specs.Settings.{ModuleRules, Posed, declarer}
use Rattle.inside_keys.specs.Values.{asking_of, body_by, body_of_declarer, kept, planned_body, posed_asking, typed_then}
use Rattle.inside_uses.specs.Uses.{HasValue, KnownValues, ParametersAreValues}
use Rattle.inside_uses.proofs.Ends.{AnyKey, Ends, by_value, ends_in, passes}
use Rattle.inside_uses.proofs.Passing.{by_known, by_number, by_valued}

module _ (s : ModuleRules) (known : KnownValues) where
  abbrev IsValue : Found → Type 0
  IsValue f = HasValue (Some f)

  abbrev Go : KeyAsking → Type 0
  Go a = Ends known IsValue a

  kept_go : (r : Result Value ModelFault) → Go (kept r)
  kept_go (Ok v) = tt
  kept_go (Err f) = tt

  posed_go : (o : Option Posed) → Go (posed_asking o)
  posed_go None = tt
  posed_go (Some p) = by_valued Go (AnyKey known IsValue) (passes known IsValue) (meant_under p.variables p.place) (valued p.expression) (λ v. kept (checked p.check v)) (λ r k is. tt) (λ v. kept_go (checked p.check v))

  typed_go : (m : Module) (next : ℕ → TypeDeclaration → KeyAsking) → ((n : ℕ) (t : TypeDeclaration) → Go (next n t)) → Go (typed_then s m next)
  typed_go m next h = by_value known IsValue (key m what.Type) _ (λ v is. by_number Go (AnyKey known IsValue) (passes known IsValue) v _ (λ n. by_known Go (AnyKey known IsValue) (passes known IsValue) (slice_get s.types n) _ (λ t. h n t)))

  body_go : (m : Module) (o : Option Module) (next : SubmoduleBody → KeyAsking) → ((b : SubmoduleBody) → Go (next b)) → Go (body_of_declarer s m o next)
  body_go m None next h = h (planned_body (s.planned m))
  body_go m (Some around) next h = typed_go around _ (λ n t. h (body_by (submodule_named (s.stands m).name t.submodules)))

  pub parameter_go : (m : Module) (x : List ℕ) → Go (asking_of s (key m (what.Param x)))
  parameter_go m x = typed_go m _ (λ n t. body_go m (declarer s m) _ (λ b. posed_go (parameter_posed s m t b x)))

pub are_values : ParametersAreValues
are_values s m x known f h = ends_in known (λ g. HasValue (Some g)) (asking_of s (key m (what.Param x))) f (parameter_go s known m x) h
