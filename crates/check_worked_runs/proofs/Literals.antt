-- What literals come to.
use Rattle.std.proofs.Common.{◌≡◌, ℕ, ◌^◌, List, [], Option, Some, None, Result, Ok, Err, refl, ap}
use Rattle.param_following.specs.Asking.{Done}
use Rattle.param_following.specs.Following.{or_circle, value_of, value_within}
use Rattle.ned_trees.specs.declared.expressions.Expression.{Expression, the_lemmas}
use Rattle.ned_trees.specs.declared.expressions.Expression.TheVariants as expression
use Rattle.sim_values.specs.declared.value.Value.{Value}
use Rattle.sim_values.specs.declared.model_fault.ModelFault.{ModelFault}
use Rattle.sim_values.specs.declared.model_fault.ModelFault.TheVariants as fault
use Rattle.sim_values.specs.declared.value_fault.ValueFault.TheVariants.{Unassigned, Circle}
use Rattle.inside_keys.specs.declared.found.Found.{Found}
use Rattle.inside_keys.specs.Keys.{same_key}
use Rattle.param_eval.specs.Values.{Valued, valued}
use Rattle.inside_keys.specs.declared.key.Key.{Key}
use Rattle.inside_keys.specs.declared.key.Module.{Module}
use Rattle.inside_keys.specs.declared.key.What.{What}
use Rattle.inside_keys.specs.declared.key.What.TheVariants as what
use Rattle.inside_keys.specs.Asked.{KeyAsking, valued_then}
use Rattle.inside_keys.specs.Checks.{checked}
use Rattle.inside_keys.specs.Given.{parameter_posed}
use Rattle.inside_keys.specs.Places.{meant_under}
use Rattle.inside_keys.specs.Settings.{ModuleRules, Posed}
use Rattle.inside_keys.specs.Values.{asking_by, asking_of, body_then, kept, posed_asking, typed_then, value_at}

-- literals compute
abbrev pub literal_valued : Expression → Valued
literal_valued (expression.Literal v) = Done (Ok v)
literal_valued e = valued e

abbrev pub posed_by : Option Posed → KeyAsking
posed_by None = Done (Err (fault.Value Unassigned))
posed_by (Some p) = valued_then (meant_under p.variables p.place) (literal_valued p.expression) (λ v. kept (checked p.check v))

abbrev pub asks : ModuleRules → Module → What → KeyAsking
asks s m (what.Param x) = typed_then s m (λ n t. body_then s m (λ body. posed_by (parameter_posed s m t body x)))
asks s m w = asking_by s m w

abbrev pub asks_of : ModuleRules → Key → KeyAsking
asks_of s k = asks s k.site k.what

abbrev pub value_by : (Key → KeyAsking) → Key → Result Found ModelFault
value_by asking k = or_circle (fault.Value Circle) (value_within (record { same = same_key; asking = asking; circle = fault.Value Circle }) (2 ^ 64) [] k)

at_literal : (v : Value) → valued (expression.Literal v) ≡ Done (Ok v)
at_literal v = search the_lemmas

valued_so : (e : Expression) → valued e ≡ literal_valued e
valued_so (expression.Literal v) = at_literal v
valued_so _ = refl

posed_so : (p : Option Posed) → posed_asking p ≡ posed_by p
posed_so None = refl
posed_so (Some p) = ap (λ (t : Valued). valued_then (meant_under p.variables p.place) t (λ v. kept (checked p.check v))) (valued_so p.expression)

-- functions that are the same everywhere are one
pub alike : {A B : Type 0} (f g : A → B) → ((x : A) → f x ≡ g x) → f ≡ g
alike f g h = λ i x. h x i

asks_so : (s : ModuleRules) (m : Module) (w : What) → asking_by s m w ≡ asks s m w
asks_so s m (what.Param x) =
    ap (λ (f : Option Posed → KeyAsking). typed_then s m (λ n t. body_then s m (λ body. f (parameter_posed s m t body x)))) (alike posed_asking posed_by posed_so)
asks_so s m _ = refl

pub value_so : (s : ModuleRules) (k : Key) → value_at s k ≡ value_by (asks_of s) k
unfolding value_of
value_so s k = ap (λ (f : Key → KeyAsking). value_by f k) (alike (asking_of s) (asks_of s) (λ j. asks_so s j.site j.what))
