-- The class of a module that was created, by values of keys in which literals compute.
use Rattle.std.proofs.Common.{◌≡◌, ◌∙◌, ℕ, List, [], ◌∷◌, Option, Some, None, Result, refl, ap, if◌then◌else◌}
use Rattle.param_following.specs.Following.{value_of}
use Rattle.ned_trees.specs.declared.declarations.SectionLine.{SectionLine}
use Rattle.ned_trees.specs.declared.declarations.SectionLine.TheVariants as line
use Rattle.ned_trees.specs.declared.declarations.TypeDeclaration.{TypeDeclaration}
use Rattle.ned_types.specs.Flat.{or_else}
use Rattle.sim_values.specs.declared.model_fault.ModelFault.{ModelFault}
use Rattle.inside_parts.specs.declared.gates.TypeGate.{TypeGate}
use Rattle.inside_parts.specs.declared.gates.TypeGates.{TypeGates}
use Rattle.inside_parts.specs.Gates as type_gates
use Rattle.inside_keys.specs.declared.found.Found.{Found}
use Rattle.inside_keys.specs.declared.key.Key.{Key}
use Rattle.inside_keys.specs.declared.key.Module.{Module}
use Rattle.inside_keys.specs.declared.key.What.TheVariants as what
use Rattle.inside_keys.specs.declared.planned.Planned.{Planned}
use Rattle.inside_keys.specs.Given.{misplaced}
use Rattle.inside_keys.specs.Keys.{key}
use Rattle.inside_keys.specs.Settings.{ModuleRules}
use Rattle.inside_keys.specs.Values.{value_at}
use Rattle.inside_keys.proofs.Literals.{asks, rules_by, value_so}
use Rattle.model_questions.specs.declared.answer.Answer.{Answer}
use Rattle.model_questions.specs.declared.answer.Answer.TheVariants as answer
use Rattle.model_answers.specs.Keyed.{class_answer, class_by, class_without, fault_in, fault_of_created, fault_of_gates, fault_of_line, fault_of_lines, fault_of_misplaced, fault_of_plan, fault_of_size, fault_of_sizes, number_in, type_at_number, typed}

-- ---- classes where keys have these values

module _ (values : Key → Result Found ModelFault) (m : Module) where
  abbrev pub line_with : SectionLine → Option ModelFault
  line_with (line.Declaration d) = fault_in (values (key m (what.Param d.name)))
  line_with (line.Assignment a) = None
  line_with (line.Statistic t) = None
  line_with (line.Class name) = None
  line_with line.Ignored = None

  abbrev pub lines_with : List SectionLine → Option ModelFault
  lines_with [] = None
  lines_with (l ∷ ls) = or_else (line_with l) (lines_with ls)

  abbrev pub size_with : TypeGate → Option ModelFault
  size_with g = if g.kind.is_vector then fault_in (values (key m (what.Declared g.name))) else None

  abbrev pub sizes_with : List TypeGate → Option ModelFault
  sizes_with [] = None
  sizes_with (g ∷ gs) = or_else (size_with g) (sizes_with gs)

  abbrev pub misplaced_with : Option (List ℕ) → Option ModelFault
  misplaced_with None = None
  misplaced_with (Some name) = fault_in (values (key m (what.Declared name)))

  abbrev pub gates_with : TypeDeclaration → TypeGates → Option ModelFault
  gates_with t gates = or_else (misplaced_with (misplaced gates t.gates)) (sizes_with gates.gates)

  abbrev pub created_with : TypeDeclaration → TypeGates → Planned → Option ModelFault
  created_with t gates p = or_else (fault_of_plan t gates p) (or_else (lines_with t.lines) (gates_with t gates))

  abbrev pub typed_with : Planned → Option ModelFault → Option TypeDeclaration → Answer
  typed_with p (Some f) t = answer.Fault m.path f
  typed_with p None t = typed t (λ u. class_without m u (created_with u (type_gates.gates_of u.gates) p))

  abbrev pub class_with : List TypeDeclaration → Option Planned → Answer
  class_with types None = answer.Absent
  class_with types (Some p) = typed_with p (fault_in (values (key m what.Type))) (type_at_number types (number_in (values (key m what.Type))))

-- ---- those of a setting are the same

module _ (s : ModuleRules) (m : Module) where
  line_same : (l : SectionLine) → fault_of_line s m l ≡ line_with (value_at s) m l
  line_same (line.Declaration d) = refl
  line_same (line.Assignment a) = refl
  line_same (line.Statistic t) = refl
  line_same (line.Class name) = refl
  line_same line.Ignored = refl

  lines_same : (ls : List SectionLine) → fault_of_lines s m ls ≡ lines_with (value_at s) m ls
  lines_same [] = refl
  lines_same (l ∷ ls) =
      ap (λ o. or_else o (fault_of_lines s m ls)) (line_same l) ∙ ap (or_else (line_with (value_at s) m l)) (lines_same ls)

  sizes_same : (gs : List TypeGate) → fault_of_sizes s m gs ≡ sizes_with (value_at s) m gs
  sizes_same [] = refl
  sizes_same (g ∷ gs) = ap (or_else (fault_of_size s m g)) (sizes_same gs)

  misplaced_same : (o : Option (List ℕ)) → fault_of_misplaced s m o ≡ misplaced_with (value_at s) m o
  misplaced_same None = refl
  misplaced_same (Some name) = refl

  gates_same : (t : TypeDeclaration) (gates : TypeGates) → fault_of_gates s m t gates ≡ gates_with (value_at s) m t gates
  gates_same t gates =
      ap (λ o. or_else o (fault_of_sizes s m gates.gates)) (misplaced_same (misplaced gates t.gates))
      ∙ ap (or_else (misplaced_with (value_at s) m (misplaced gates t.gates))) (sizes_same gates.gates)

  created_same : (t : TypeDeclaration) (gates : TypeGates) (p : Planned) → fault_of_created s m t gates p ≡ created_with (value_at s) m t gates p
  created_same t gates p =
      ap (λ o. or_else (fault_of_plan t gates p) (or_else o (fault_of_gates s m t gates))) (lines_same t.lines)
      ∙ ap (λ o. or_else (fault_of_plan t gates p) (or_else (lines_with (value_at s) m t.lines) o)) (gates_same t gates)

  typed_same : (p : Planned) (f : Option ModelFault) (t : Option TypeDeclaration) → class_by s m p f t ≡ typed_with (value_at s) m p f t
  typed_same p (Some f) t = refl
  typed_same p None None = refl
  typed_same p None (Some t) = ap (class_without m t) (created_same t (type_gates.gates_of t.gates) p)

  class_same : (p : Option Planned) → class_answer s m p ≡ class_with (value_at s) m s.types p
  class_same None = refl
  class_same (Some p) = typed_same p (fault_in (value_at s (key m what.Type))) (type_at_number s.types (number_in (value_at s (key m what.Type))))

-- ---- the same, where literals compute

abbrev pub value_by : ModuleRules → Key → Result Found ModelFault
value_by s k = value_of (rules_by s (λ j. asks s j.site j.what)) k

alike : {A B : Type 0} (f g : A → B) → ((x : A) → f x ≡ g x) → f ≡ g
alike f g h = λ i x. h x i

pub class_is : (s : ModuleRules) (m : Module) (p : Option Planned) → class_answer s m p ≡ class_with (value_by s) m s.types p
class_is s m p = class_same s m p ∙ ap (λ (v : Key → Result Found ModelFault). class_with v m s.types p) (alike (value_at s) (value_by s) (value_so s))
