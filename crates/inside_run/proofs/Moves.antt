-- What keys come to.
use Rattle.std.proofs.Common.{◌≡◌, ℕ, suc, zero, ◌≤◌, ℤ, Bool, true, false, not, if◌then◌else◌, List, [], ◌∷◌, Option, Some, None, is_some, slice_get, Result, Ok, Err, refl, ap, sym, subst, ◌∙◌, arith}
use mathlib.Core.Path.{fun_ext}
use Rattle.ned_trees.specs.declared.declarations.Submodule.{Submodule}
use Rattle.ned_trees.specs.declared.declarations.TypeDeclaration.{TypeDeclaration}
use Rattle.sim_values.specs.declared.value.Value.{Value}
use Rattle.inside_parts.specs.declared.fault.InsideError.{InsideError}
use Rattle.inside_parts.specs.declared.fault.InsideError.TheVariants as stop
use Rattle.inside_wiring.specs.Ends.{part_named}
use Rattle.inside_keys.specs.declared.found.Found.{Found}
use Rattle.inside_keys.specs.declared.found.Found.TheVariants as found
use Rattle.inside_keys.specs.declared.key.Key.{Key}
use Rattle.inside_keys.specs.declared.key.Module.{Module}
use Rattle.inside_keys.specs.declared.key.What.{What}
use Rattle.inside_keys.specs.declared.key.What.TheVariants as what
use Rattle.inside_keys.specs.Keys.{key}
use Rattle.param_following.specs.Asking.{Ask}
use Rattle.inside_keys.specs.Asked.{KeyAsking, result_then, valued_then}
use Rattle.inside_keys.specs.declared.place.Meaning.{Meaning}
use Rattle.param_eval.specs.declared.evaluation.Evaluation.{Evaluation}
use Rattle.param_eval.specs.Evaluating.{weight_of}
use Rattle.param_eval.specs.References.{Reference}
use Rattle.param_eval.specs.Values.{Valued}
use Rattle.inside_run.specs.declared.posed.Posable.{Posable}
use Rattle.inside_run.specs.declared.reach.Reached.{Reached}
use Rattle.inside_run.specs.declared.reach.Reached.TheVariants as reached
use Rattle.inside_run.specs.Posing.{maybe_posed}
use Rattle.inside_run.specs.Runs.{Reaches, reached_of}
use Rattle.inside_keys.specs.Inside.{submodule_names}
use Rattle.inside_keys.specs.Settings.{ModuleRules, Whereabouts}
use Rattle.inside_keys.specs.Values.{asking_by, asking_in, asking_of, element_of, exists, exists_at, is_there, member, size_of_gate, size_read, vector_size}
use Rattle.inside_run.specs.declared.progress.Moved.{Moved}
use Rattle.inside_run.specs.declared.progress.Reading.TheVariants as reading
use Rattle.inside_run.specs.Going.{Moves, IsFound, read, size_from, typed}
use Rattle.inside_run.specs.Weights.{Costs, moved_weight, most, posed_weight}

-- ---- what is read of submodules

swapped : (b : Bool) (t u : KeyAsking) → (if not b then t else u) ≡ (if b then u else t)
swapped true t u = refl
swapped false t u = refl

pub member_is : (m : Module) (x : List ℕ) (o : Option Submodule) → read m (reading.Member x) o ≡ member m x o
member_is m x None = refl
member_is m x (Some l) = swapped (is_some l.size) _ _

pub exists_is : (m : Module) (o : Option Submodule) → read m reading.Exists o ≡ exists m o
exists_is m None = refl
exists_is m (Some l) = swapped (is_some l.size) _ _

pub element_is : (m : Module) (k : ℤ) (x : List ℕ) (o : Option Submodule) → read m (reading.Element k x) o ≡ element_of m k x o
element_is m k x None = refl
element_is m k x (Some l) = refl

pub exists_at_is : (m : Module) (k : ℤ) (o : Option Submodule) → read m (reading.ExistsAt k) o ≡ exists_at m k o
exists_at_is m k None = refl
exists_at_is m k (Some l) = refl

pub size_is : (m : Module) (o : Option Submodule) → read m reading.Size o ≡ vector_size m o
size_is m None = refl
size_is m (Some l) = refl

-- a number is there that is one of so many
pub some_is_there : (m : Module) (o : Option ℕ) → is_some o ≡ is_there m o
some_is_there m None = refl
some_is_there m (Some k) = refl

module _ (s : ModuleRules) where
  -- the names that are held are those of the type
  pub size_from_is : (names : List (List ℕ)) (u : TypeDeclaration) (t : Whereabouts) (g : List ℕ) → names ≡ submodule_names u → size_from s names t g ≡ size_read s u t g
  size_from_is names u t g e = fun_ext by
    where
      by : (f : Found) → size_from s names t g f ≡ size_read s u t g f
      by (found.Inside i) = ap (λ ns. result_then (part_named ns i.parts t.name t.index) (size_of_gate s t g i)) e
      by (found.Value v) = refl
      by (found.Carrier c) = refl

  -- a type that was found
  pub moves_typed : (r : Result Moved InsideError) (v : Value) (n : ℕ) (t : TypeDeclaration) (next : ℕ → TypeDeclaration → KeyAsking) → IsFound s v n t → Moves s r (next n t) → Moves s r (typed s next (found.Value v))
  moves_typed r v n t next f h = subst (Moves s r) (sym (f.leads next)) h

  pub moves_as : (r : Result Moved InsideError) (t u : KeyAsking) → t ≡ u → Moves s r t → Moves s r u
  moves_as r t u e h = subst (Moves s r) e h

  pub costs_more : (r : Result Moved InsideError) (a b : ℕ) → a ≤ b → Costs s a r → Costs s b r
  costs_more (Ok m) a b h c = let k : moved_weight s m ≤ a = c in omega (arith, h, k)
  costs_more (Err e) a b h c = tt

  pub costs_as : (r : Result Moved InsideError) (a b : ℕ) → a ≡ b → Costs s a r → Costs s b r
  costs_as r a b e h = subst (λ n. Costs s n r) e h

  -- an expression has come to a fault
  pub reached_fault : (why : InsideError) (means : Reference → Meaning) (e : Evaluation) (t : Valued) (next : Value → KeyAsking) → Reaches means (Err why) e t → Moves s (Err why) (valued_then means t next)
  reached_fault (stop.Fault f) means e t next h = h next
  reached_fault (stop.Memory m) means e t next h = tt

  -- a key that is no type asks for the type of its module first
  typed_by : (m : Module) (w : What) → (w ≡ what.Type → ⊥) → Ask (key m what.Type) (typed s (asking_in s m w)) ≡ asking_by s m w
  typed_by m what.Type h = absurd (h refl)
  typed_by m _ h = refl

  pub type_first : (k : Key) (m : Module) (w : What) (t : Key) → (k.what ≡ what.Type → ⊥) → t ≡ key k.site what.Type → m ≡ k.site → w ≡ k.what → Ask t (typed s (asking_in s m w)) ≡ asking_of s k
  type_first k m w t h et em ew =
      ap (λ x. Ask x (typed s (asking_in s m w))) et ∙ ap (λ x. Ask (key k.site what.Type) (typed s (asking_in s x w))) em
      ∙ ap (λ x. Ask (key k.site what.Type) (typed s (asking_in s k.site x))) ew ∙ typed_by k.site k.what h

  -- an expression has its value, and something is done with it
  pub reached_value : (r : Result Moved InsideError) (means : Reference → Meaning) (x : Reached) (e : Evaluation) (t : Valued) (next : Value → KeyAsking) (v : Value)
      → x ≡ reached.Value v → ((n : Value → KeyAsking) → reached_of means x e n ≡ valued_then means t n) → Moves s r (next v) → Moves s r (valued_then means t next)
  reached_value r means x e t next v is h m = subst (Moves s r) (sym (ap (λ y. reached_of means y e next) is) ∙ h next) m

-- it needs the value of a key
pub reached_key : (means : Reference → Meaning) (x : Reached) (e : Evaluation) (t : Valued) (next : Value → KeyAsking) (k : Key)
    → x ≡ reached.Key k → ((n : Value → KeyAsking) → reached_of means x e n ≡ valued_then means t n) → reached_of means (reached.Key k) e next ≡ valued_then means t next
reached_key means x e t next k is h = ap (λ y. reached_of means y e next) (sym is) ∙ h next

-- an expression that is begun asks no more often than it weighs
pub begun_weight : (o : Option Posable) (p : Posable) (n : ℕ) → o ≡ Some p → n ≤ weight_of p.expression.now → n ≤ posed_weight (maybe_posed o)
begun_weight o p n is h = subst (λ x. n ≤ posed_weight (maybe_posed x)) (sym is) h

-- what holds of the type that was found is no more than the most of all
pub most_of : (f : TypeDeclaration → ℕ) (ts : List TypeDeclaration) (n : ℕ) (t : TypeDeclaration) → slice_get ts n ≡ Some t → f t ≤ most f ts
most_of f [] n t e = cc
most_of f (u ∷ us) zero t e = let same : u ≡ t = cc in let k : f u ≡ f t = ap f same in omega (arith, k)
most_of f (u ∷ us) (suc n) t e = let h : f t ≤ most f us = most_of f us n t e in omega (arith, h)
