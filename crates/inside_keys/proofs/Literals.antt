-- What literals come to: askings in which they compute.
use Rattle.std.proofs.Common.{◌≡◌, ℕ, pos, List, [], Option, Some, None, Ok, Err, refl, ap, if◌then◌else◌}
use Rattle.std.specs.Prelude.{is_none}
use Rattle.param_following.specs.Asking.{Done}
use Rattle.param_following.specs.Following.{Rules, followed, value_of}
use Rattle.ned_trees.specs.declared.declarations.ParametricType.{ParametricType}
use Rattle.ned_trees.specs.declared.declarations.Submodule.{Submodule}
use Rattle.ned_trees.specs.declared.declarations.SubmoduleBody.{SubmoduleBody}
use Rattle.ned_trees.specs.declared.declarations.SubmoduleType.{SubmoduleType}
use Rattle.ned_trees.specs.declared.declarations.SubmoduleType.TheVariants.{Named, Like}
use Rattle.ned_trees.specs.declared.declarations.TypeDeclaration.{TypeDeclaration}
use Rattle.ned_trees.specs.declared.expressions.Expression.{Expression, the_lemmas}
use Rattle.ned_trees.specs.declared.expressions.Expression.TheVariants as expression
use Rattle.ned_types.specs.Flat.{submodule_named}
use Rattle.sim_values.specs.declared.value.Value.{Value}
use Rattle.sim_values.specs.declared.value.Value.TheVariants as value
use Rattle.sim_values.specs.declared.model_fault.ModelFault.{ModelFault}
use Rattle.sim_values.specs.declared.model_fault.ModelFault.TheVariants as fault
use Rattle.sim_values.specs.declared.model_fault.ModelFault.TheVariants.{UnknownType, NoGate}
use Rattle.sim_values.specs.declared.value_fault.ValueFault.TheVariants.{Circle, TooDeep, Unassigned}
use Rattle.param_eval.specs.Values.{Valued, valued}
use Rattle.param_values.specs.Settings.{Written}
use Rattle.inside_parts.specs.Gates as type_gates
use Rattle.inside_parts.specs.Names.{position_of}
use Rattle.inside_keys.specs.declared.found.Found.{Found}
use Rattle.inside_keys.specs.declared.key.Key.{Key}
use Rattle.inside_keys.specs.declared.key.Module.{Module}
use Rattle.inside_keys.specs.declared.key.What.{What}
use Rattle.inside_keys.specs.declared.key.What.TheVariants as what
use Rattle.inside_keys.specs.Asked.{KeyAsking, valued_then}
use Rattle.inside_keys.specs.Checks.{checked}
use Rattle.inside_keys.specs.Given.{gate_size_posed, has_vector, parameter_posed}
use Rattle.inside_keys.specs.Inside.{conditioned, is_vector, sized}
use Rattle.inside_keys.specs.Keys.{same_key}
use Rattle.inside_keys.specs.Places.{meant_under}
use Rattle.inside_keys.specs.Settings.{ModuleRules, Posed, choice_place, declarer, type_names}
use Rattle.inside_keys.specs.Values.{asking_by, asking_of, body_then, declared_asking, is, is_among, kept, numbered, posed_asking, rules_of, sized_or_open, text_with, type_asking_by, type_by, type_declared, type_in, type_of_submodule, type_told, type_undeclared, type_written, typed_then, value_at}

-- functions that are the same everywhere are one
alike : {A B : Type 0} (f g : A → B) → ((x : A) → f x ≡ g x) → f ≡ g
alike f g h = λ i x. h x i

-- literals compute
abbrev pub literal_valued : Expression → Valued
literal_valued (expression.Literal v) = Done (Ok v)
literal_valued e = valued e

at_literal : (v : Value) → valued (expression.Literal v) ≡ Done (Ok v)
at_literal v = search the_lemmas

valued_so : (e : Expression) → valued e ≡ literal_valued e
valued_so (expression.Literal v) = at_literal v
valued_so _ = refl

abbrev pub posed_by : Option Posed → KeyAsking
posed_by None = Done (Err (fault.Value Unassigned))
posed_by (Some p) = valued_then (meant_under p.variables p.place) (literal_valued p.expression) (λ v. kept (checked p.check v))

posed_so : (p : Option Posed) → posed_asking p ≡ posed_by p
posed_so None = refl
posed_so (Some p) = ap (λ (t : Valued). valued_then (meant_under p.variables p.place) t (λ v. kept (checked p.check v))) (valued_so p.expression)

module _ (s : ModuleRules) where
  -- ---- sizes

  abbrev pub open_or_sized : Option Posed → KeyAsking
  open_or_sized None = is (value.Whole (pos 0))
  open_or_sized (Some p) = posed_by (Some p)

  open_so : (p : Option Posed) → sized_or_open s p ≡ open_or_sized p
  open_so None = refl
  open_so (Some p) = posed_so (Some p)

  abbrev pub declared_by : Module → TypeDeclaration → List ℕ → SubmoduleBody → KeyAsking
  declared_by m t g body = if has_vector (type_gates.gates_of t.gates) g then open_or_sized (gate_size_posed s m t body g) else Done (Err NoGate)

  declared_so : (m : Module) (t : TypeDeclaration) (g : List ℕ) (body : SubmoduleBody) → declared_asking s m t g body ≡ declared_by m t g body
  declared_so m t g body = ap (λ (x : KeyAsking). if has_vector (type_gates.gates_of t.gates) g then x else Done (Err NoGate)) (open_so (gate_size_posed s m t body g))

  -- ---- types that values choose

  abbrev pub chosen_by : Module → Module → TypeDeclaration → ParametricType → SubmoduleBody → Option Written → KeyAsking
  chosen_by m around t p body None = Done (Err (fault.Value Unassigned))
  chosen_by m around t p body (Some w) = valued_then (meant_under [] (choice_place s m around)) (literal_valued w.expression) (type_told s t p body)

  chosen_so : (m around : Module) (t : TypeDeclaration) (p : ParametricType) (body : SubmoduleBody) (o : Option Written) → type_asking_by s m around t p body o ≡ chosen_by m around t p body o
  chosen_so m around t p body None = refl
  chosen_so m around t p body (Some w) = ap (λ (x : Valued). valued_then (meant_under [] (choice_place s m around)) x (type_told s t p body)) (valued_so w.expression)

  abbrev pub by_type : Module → Module → TypeDeclaration → SubmoduleBody → SubmoduleType → KeyAsking
  by_type m around t body (Named name) = numbered s (position_of name (type_names s))
  by_type m around t body (Like p) = chosen_by m around t p body (type_written s m p)

  by_type_so : (m around : Module) (t : TypeDeclaration) (body : SubmoduleBody) (y : SubmoduleType) → type_by s m around t body y ≡ by_type m around t body y
  by_type_so m around t body (Named name) = refl
  by_type_so m around t body (Like p) = chosen_so m around t p body (type_written s m p)

  abbrev pub of_submodule : Module → Module → TypeDeclaration → Submodule → KeyAsking
  of_submodule m around t l = by_type m around (text_with s t l.name) l.body l.submodule_type

  of_submodule_so : (m around : Module) (t : TypeDeclaration) (l : Submodule) → type_of_submodule s m around t l ≡ of_submodule m around t l
  of_submodule_so m around t l = by_type_so m around (text_with s t l.name) l.body l.submodule_type

  -- where one asking stands in the place of another
  abbrev pub of_element : Module → ℕ → KeyAsking → KeyAsking
  of_element m n x = if is_among s n (s.stands m).index then x else Done (Err UnknownType)

  abbrev pub of_index : Module → Module → Submodule → KeyAsking → KeyAsking
  of_index m around l x = if is_vector l then sized around l (λ n. of_element m n x) else (if is_none (s.stands m).index then x else Done (Err UnknownType))

  abbrev pub in_type : Module → Module → TypeDeclaration → Option Submodule → KeyAsking
  in_type m around t None = Done (Err UnknownType)
  in_type m around t (Some l) = conditioned around l (of_index m around l (of_submodule m around t l)) (Done (Err UnknownType))

  in_type_so : (m around : Module) (t : TypeDeclaration) (o : Option Submodule) → type_in s m around t o ≡ in_type m around t o
  in_type_so m around t None = refl
  in_type_so m around t (Some l) = ap (λ (x : KeyAsking). conditioned around l (of_index m around l x) (Done (Err UnknownType))) (of_submodule_so m around t l)

  abbrev pub of_declarer : Module → Option Module → KeyAsking
  of_declarer m None = type_undeclared s m (s.stands m).around (s.planned m)
  of_declarer m (Some around) = if s.is_too_deep m then Done (Err (fault.Value TooDeep)) else typed_then s around
      (λ n t. in_type m around t (submodule_named (s.stands m).name t.submodules))

  of_declarer_so : (m : Module) (o : Option Module) → type_declared s m o ≡ of_declarer m o
  of_declarer_so m None = refl
  of_declarer_so m (Some around) =
      let f : TypeDeclaration → Option Submodule → KeyAsking = λ t o. type_in s m around t o in
      let g : TypeDeclaration → Option Submodule → KeyAsking = λ t o. in_type m around t o in
      let same : f ≡ g = alike f g (λ t. alike (f t) (g t) (λ o. in_type_so m around t o)) in
      ap (λ (h : TypeDeclaration → Option Submodule → KeyAsking). if s.is_too_deep m then Done (Err (fault.Value TooDeep)) else typed_then s around (λ n t. h t (submodule_named (s.stands m).name t.submodules))) same

  -- ---- keys

  abbrev pub asks : Module → What → KeyAsking
  asks m what.Type = of_declarer m (declarer s m)
  asks m (what.Param x) = typed_then s m (λ n t. body_then s m (λ body. posed_by (parameter_posed s m t body x)))
  asks m (what.Declared g) = typed_then s m (λ n t. body_then s m (λ body. declared_by m t g body))
  asks m w = asking_by s m w

  asks_so : (m : Module) (w : What) → asking_by s m w ≡ asks m w
  asks_so m what.Type = of_declarer_so m (declarer s m)
  asks_so m (what.Param x) =
      ap (λ (f : Option Posed → KeyAsking). typed_then s m (λ n t. body_then s m (λ body. f (parameter_posed s m t body x)))) (alike posed_asking posed_by posed_so)
  asks_so m (what.Declared name) =
      let f : TypeDeclaration → SubmoduleBody → KeyAsking = λ t body. declared_asking s m t name body in
      let g : TypeDeclaration → SubmoduleBody → KeyAsking = λ t body. declared_by m t name body in
      let same : f ≡ g = alike f g (λ t. alike (f t) (g t) (λ body. declared_so m t name body)) in
      ap (λ (h : TypeDeclaration → SubmoduleBody → KeyAsking). typed_then s m (λ n t. body_then s m (λ body. h t body))) same
  asks_so m _ = refl

  abbrev pub rules_by : (Key → KeyAsking) → Rules Key Found ModelFault
  rules_by asking = record { same = same_key; asking = asking; circle = fault.Value Circle }

  -- WHERE LITERALS COMPUTE all is found as ever
  pub followed_so : (n : ℕ) (k : Key) → followed (rules_of s) n k ≡ followed (rules_by (λ j. asks j.site j.what)) n k
  followed_so n k = ap (λ (f : Key → KeyAsking). followed (rules_by f) n k) (alike (asking_of s) (λ (j : Key). asks j.site j.what) (λ j. asks_so j.site j.what))

  pub value_so : (k : Key) → value_at s k ≡ value_of (rules_by (λ j. asks j.site j.what)) k
  value_so k = ap (λ (f : Key → KeyAsking). value_of (rules_by f) k) (alike (asking_of s) (λ (j : Key). asks j.site j.what) (λ j. asks_so j.site j.what))
