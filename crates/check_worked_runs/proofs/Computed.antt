-- The answers of a model, by values of keys in which literals compute.
use Rattle.std.proofs.Common.{◌≡◌, ◌∙◌, ℕ, List, Option, Some, None, Result, refl, ap}
use Rattle.ned_trees.specs.declared.declarations.TypeDeclaration.{TypeDeclaration}
use Rattle.ned_trees.specs.declared.declarations.TypeKind.{TypeKind}
use Rattle.ned_trees.specs.declared.declarations.TypeKind.TheVariants as kind
use Rattle.sim_values.specs.declared.model_fault.ModelFault.{ModelFault}
use Rattle.inside_keys.specs.declared.found.Found.{Found}
use Rattle.inside_keys.specs.declared.key.Key.{Key}
use Rattle.inside_keys.specs.declared.key.Module.{Module}
use Rattle.inside_keys.specs.declared.key.What.TheVariants as what
use Rattle.inside_keys.specs.Blamed.{placed}
use Rattle.inside_keys.specs.Keys.{key}
use Rattle.inside_keys.specs.Settings.{ModuleRules}
use Rattle.inside_keys.specs.Values.{asking_of, value_at}
use Rattle.model_data.specs.declared.model.Model.{Model}
use Rattle.model_questions.specs.declared.answer.Answer.{Answer}
use Rattle.model_questions.specs.declared.answer.Answer.TheVariants as answer
use Rattle.model_questions.specs.Answers.{Answers}
use Rattle.model_questions.specs.Records.{Lineage}
use Rattle.model_answers.specs.Answering.{answers_of}
use Rattle.model_answers.specs.Insides.{built_answer, inside_answer, inside_by}
use Rattle.model_answers.specs.Keyed.{param_answer, type_in, typed, value_answer}
use Rattle.model_answers.specs.Lines.{rules_at, site_of}
use Rattle.check_worked_runs.proofs.Literals.{alike, asks_of, value_by, value_so}

-- ---- answers where keys have these values

abbrev pub value_with : (Key → Result Found ModelFault) → Module → Option TypeDeclaration → List ℕ → Answer
value_with values at None name = answer.Absent
value_with values at (Some t) name = value_answer at.path (values (key at (what.Param name)))

abbrev pub found_with : (Key → Result Found ModelFault) → ModuleRules → Module → Result Found (List ℕ × ModelFault)
found_with values s at = placed values at (s.stands at).around (asking_of s (key at what.Inside))

abbrev pub inside_kind : (Key → Result Found ModelFault) → ModuleRules → Module → TypeDeclaration → TypeKind → Answer
inside_kind values s at t kind.Network = built_answer s at t (found_with values s at)
inside_kind values s at t kind.Module = built_answer s at t (found_with values s at)
inside_kind values s at t kind.Simple = answer.Absent
inside_kind values s at t kind.Channel = answer.Absent
inside_kind values s at t kind.ModuleInterface = answer.Absent
inside_kind values s at t kind.ChannelInterface = answer.Absent

abbrev pub inside_with : (Key → Result Found ModelFault) → ModuleRules → Module → Option TypeDeclaration → Answer
inside_with values s at t = typed t (λ u. inside_kind values s at u u.kind)

value_same : (s : ModuleRules) (at : Module) (t : Option TypeDeclaration) (name : List ℕ) → param_answer s at t name ≡ value_with (value_at s) at t name
value_same s at None name = refl
value_same s at (Some t) name = refl

kind_same : (s : ModuleRules) (at : Module) (t : TypeDeclaration) (k : TypeKind) → inside_by s at t k ≡ inside_kind (value_at s) s at t k
kind_same s at t kind.Network = refl
kind_same s at t kind.Module = refl
kind_same s at t kind.Simple = refl
kind_same s at t kind.Channel = refl
kind_same s at t kind.ModuleInterface = refl
kind_same s at t kind.ChannelInterface = refl

inside_same : (s : ModuleRules) (at : Module) (t : Option TypeDeclaration) → inside_answer s at t ≡ inside_with (value_at s) s at t
inside_same s at None = refl
inside_same s at (Some t) = kind_same s at t t.kind

-- ---- the same, where literals compute

values_are : (s : ModuleRules) → value_at s ≡ value_by (asks_of s)
values_are s = alike (value_at s) (value_by (asks_of s)) (value_so s)

value_is : (s : ModuleRules) (at : Module) (t : Option TypeDeclaration) (name : List ℕ) → param_answer s at t name ≡ value_with (value_by (asks_of s)) at t name
value_is s at t name = value_same s at t name ∙ ap (λ (v : Key → Result Found ModelFault). value_with v at t name) (values_are s)

inside_is : (s : ModuleRules) (at : Module) (t : Option TypeDeclaration) → inside_answer s at t ≡ inside_with (value_by (asks_of s)) s at t
inside_is s at t = inside_same s at t ∙ ap (λ (v : Key → Result Found ModelFault). inside_with v s at t) (values_are s)

-- the answers of a model, with these of what is inside and of values
abbrev pub answers_with : Model → (Lineage → Answer) → (Lineage → List ℕ → Answer) → Answers
answers_with m f g = record {
  root = (answers_of m).root;
  class_there = (answers_of m).class_there;
  inside = f;
  names = (answers_of m).names;
  value = g;
  gates = (answers_of m).gates;
  hop = (answers_of m).hop;
  hop_back = (answers_of m).hop_back;
  time_limit = (answers_of m).time_limit;
  injections = (answers_of m).injections;
}

abbrev pub insides : Model → Lineage → Answer
insides m p = inside_with (value_by (asks_of (rules_at m p))) (rules_at m p) (site_of p) (type_in (rules_at m p) p)

abbrev pub values : Model → Lineage → List ℕ → Answer
values m p name = value_with (value_by (asks_of (rules_at m p))) (site_of p) (type_in (rules_at m p) p) name

abbrev pub computed : Model → Answers
computed m = answers_with m (insides m) (values m)

insides_are : (m : Model) → (answers_of m).inside ≡ insides m
unfolding answers_of
insides_are m =
    alike (λ (p : Lineage). inside_answer (rules_at m p) (site_of p) (type_in (rules_at m p) p)) (insides m)
    (λ p. inside_is (rules_at m p) (site_of p) (type_in (rules_at m p) p))

values_so : (m : Model) → (answers_of m).value ≡ values m
unfolding answers_of
values_so m =
    alike (λ (p : Lineage). param_answer (rules_at m p) (site_of p) (type_in (rules_at m p) p)) (values m) (λ p.
    alike (λ (name : List ℕ). param_answer (rules_at m p) (site_of p) (type_in (rules_at m p) p) name) (values m p)
    (λ name. value_is (rules_at m p) (site_of p) (type_in (rules_at m p) p) name))

same_answers : (m : Model) → answers_of m ≡ answers_with m (answers_of m).inside (answers_of m).value
unfolding answers_of
same_answers m = refl

pub answers_are : (m : Model) → answers_of m ≡ computed m
answers_are m =
    same_answers m ∙ ap (λ (f : Lineage → Answer). answers_with m f (answers_of m).value) (insides_are m)
    ∙ ap (λ (g : Lineage → List ℕ → Answer). answers_with m (insides m) g) (values_so m)
