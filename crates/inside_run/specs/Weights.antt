-- How often keys ask at most, from where they are.
use Rattle.std.specs.Prelude.{ℕ, ◌+◌, ◌*◌, ◌≤◌, max, length, List, [], ◌∷◌, Option, Some, None}
use Rattle.std.specs.Prelude.{Result, Ok, Err}
use Rattle.ned_trees.specs.declared.declarations.SectionLine.{SectionLine}
use Rattle.ned_trees.specs.declared.declarations.Submodule.{Submodule}
use Rattle.ned_trees.specs.declared.declarations.SubmoduleBody.{SubmoduleBody}
use Rattle.ned_trees.specs.declared.declarations.SubmoduleType.{SubmoduleType}
use Rattle.ned_trees.specs.declared.declarations.SubmoduleType.TheVariants.{Named, Like}
use Rattle.param_values.specs.Settings.{Written}
use Rattle.ned_trees.specs.declared.declarations.TypeDeclaration.{TypeDeclaration}
use Rattle.ned_types.specs.Flat.{submodule_named}
use Rattle.param_eval.specs.Evaluating.{left, weight_of}
use Rattle.inside_parts.specs.declared.fault.InsideError.{InsideError}
use Rattle.inside_keys.specs.declared.key.Module.{Module}
use Rattle.inside_keys.specs.declared.key.What.{What}
use Rattle.inside_keys.specs.declared.key.What.TheVariants as what
use Rattle.inside_keys.specs.Given.{channel_lines, channel_posed, condition_posed, gate_size_posed}
use Rattle.inside_keys.specs.Given.{parameter_posed, vector_size_posed}
use Rattle.inside_keys.specs.Settings.{Posed, ModuleRules, type_gates}
use Rattle.inside_keys.specs.Values.{body_by, planned_body, type_written}
use Rattle.inside_run.specs.declared.progress.Moved.{Moved}
use Rattle.inside_run.specs.declared.progress.Moved.TheVariants as moved
use Rattle.inside_run.specs.declared.progress.KeyProgress.{KeyProgress}
use Rattle.inside_run.specs.declared.progress.KeyProgress.TheVariants as progress
use Rattle.inside_run.specs.Runs.{load_of}
use Rattle.inside_walk.specs.Weights.{of_items, of_type_gates, of_types}

-- the most of all types
abbrev pub most : (TypeDeclaration → ℕ) → List TypeDeclaration → ℕ
most f [] = 0
most f (t ∷ ts) = max (f t) (most f ts)

abbrev pub posed_weight : Option Posed → ℕ
posed_weight None = 0
posed_weight (Some p) = weight_of p.expression

abbrev pub written_weight : Option Written → ℕ
written_weight None = 0
written_weight (Some w) = weight_of w.expression

-- each line asks for one parameter at most
abbrev pub lines_weight : Option (List SectionLine) → ℕ
lines_weight None = 0
lines_weight (Some lines) = length lines

-- submodules, where what is known of one weighs as much as `typed`
abbrev pub submodules_weight : ℕ → List Submodule → ℕ
submodules_weight typed [] = 1
submodules_weight typed (l ∷ ls) =
    (65536 * (typed + 2) + (typed + 2) + 8) + submodules_weight typed ls + 2

module _ (s : ModuleRules) where
  abbrev pub body_weight : Module → What → TypeDeclaration → SubmoduleBody → ℕ
  body_weight m (what.Param x) t body = posed_weight (parameter_posed s m t body x)
  body_weight m (what.Declared g) t body = posed_weight (gate_size_posed s m t body g)
  body_weight m _ t body = 0

  abbrev pub around_weight : Module → What → TypeDeclaration → List ℕ → ℕ
  around_weight m w t name =
      most (λ u. body_weight m w t (body_by (submodule_named name u.submodules))) s.types

  -- what names the type of a submodule that is that module
  abbrev pub choice_weight : Module → SubmoduleType → ℕ
  choice_weight m (Named name) = 0
  choice_weight m (Like p) = written_weight (type_written s m p)

  abbrev pub chosen_weight : Module → Option Submodule → ℕ
  chosen_weight m None = 0
  chosen_weight m (Some l) = 2 + choice_weight m l.submodule_type

  abbrev pub type_weight : Module → List ℕ → ℕ
  type_weight m name = most (λ u. chosen_weight m (submodule_named name u.submodules)) s.types

  -- an inside of that type
  abbrev pub inside_weight : TypeDeclaration → ℕ
  inside_weight t = of_type_gates (type_gates s)
      + submodules_weight (of_types s.types + of_type_gates (type_gates s) + 3) t.submodules
      + of_items t.connections.items + 1000000 * of_items t.connections.items

  -- a key of a module of that type
  abbrev pub typed_weight : Module → What → TypeDeclaration → ℕ
  typed_weight m (what.Param x) t = 1 + body_weight m (what.Param x) t (planned_body (s.planned m))
      + around_weight m (what.Param x) t (s.stands m).name
  typed_weight m (what.Declared g) t = 1
      + body_weight m (what.Declared g) t (planned_body (s.planned m))
      + around_weight m (what.Declared g) t (s.stands m).name
  typed_weight m (what.Condition sub) t = posed_weight (condition_posed s m t sub)
  typed_weight m (what.VectorSize sub) t = posed_weight (vector_size_posed s m t sub)
  typed_weight m what.Type t = 0
  typed_weight m (what.Channel c x) t = posed_weight (channel_posed s m c t x)
  typed_weight m (what.Carrier c) t = lines_weight (channel_lines s t c)
  typed_weight m what.Joined t = inside_weight t
  typed_weight m what.Inside t = inside_weight t
  typed_weight m _ t = 3

  -- HOW OFTEN A KEY ASKS AT MOST
  abbrev pub weight : KeyProgress → ℕ
  weight (progress.OwnType m w) = most (typed_weight m w) s.types
  weight (progress.TypeAround m around name) = type_weight m name
  weight (progress.TypeCondition m around t l) = 1 + choice_weight m l.now.submodule_type
  weight (progress.TypeSize m around t l) = choice_weight m l.now.submodule_type
  weight (progress.TypePlanned name) = 0
  weight (progress.BodyAround m w t name) = around_weight m w t.now name
  weight (progress.InsideAround m t g) = 1
  weight (progress.Joined names t g) = 0
  weight (progress.Condition m name r) = 2
  weight (progress.VectorSize m name r) = 1
  weight progress.Same = 0
  weight (progress.Posed p) = left p.evaluation
  weight (progress.Chosen c) = left c.evaluation
  weight (progress.Carried c) = length c.lines.now
  weight (progress.Inside w) = load_of w.ground w.doing w.tasks w.state
  weight progress.Over = 0

  abbrev pub moved_weight : Moved → ℕ
  moved_weight (moved.Asks k p) = 1 + weight p
  moved_weight (moved.Done f) = 0

  -- it asks no more often than that
  abbrev pub Costs : ℕ → Result Moved InsideError → Type 0
  Costs n (Ok m) = moved_weight m ≤ n
  Costs n (Err e) = Unit {0}
