-- Models that are alike but in some parameters of modules.
use Rattle.std.specs.Prelude.{◌≡◌, ℕ, Bool, true, false, not, ◌&&◌, ◌||◌, bytes_eq, List, [], ◌∷◌}
use Rattle.std.specs.Prelude.{Some, if◌then◌else◌}
use Rattle.inside_keys.specs.declared.key.What.{What}
use Rattle.inside_keys.specs.declared.key.What.TheVariants as what
use Rattle.model_data.specs.declared.model.Model.{Model}
use Rattle.model_settings.specs.Standings.{before_last, setting_of}
use Rattle.model_answers.specs.Answering.{answers_of}
use Rattle.model_answers.specs.Keyed.{module_at, value_of}
use Rattle.model_questions.specs.declared.answer.Question.{Question}
use Rattle.model_questions.specs.declared.answer.Question.TheVariants.{Root, TypeOf, Build, Param}
use Rattle.model_questions.specs.declared.answer.Question.TheVariants.{GateSize, Hop, HopBack}
use Rattle.model_questions.specs.declared.answer.Question.TheVariants.{BeyondLimit, InjectionBefore}
use Rattle.model_questions.specs.declared.record.Record.{Record}
use Rattle.model_questions.specs.Answers.{answer_of}
use Rattle.model_questions.specs.Records.{Lineage, is_built, path_of, place_of}
use Rattle.model_agreement.specs.declared.changes.ChangedParameter.{ChangedParameter}

-- ---- parameters that may have changed

-- whether one of them is that parameter of the module of that path
abbrev pub is_changed : List ChangedParameter → List ℕ → List ℕ → Bool
is_changed [] path name = false
is_changed (c ∷ cs) path name =
    (bytes_eq c.name name && bytes_eq c.path path) || is_changed cs path name

-- whether one of them has that name, of whichever module
abbrev pub is_changed_somewhere : List ChangedParameter → List ℕ → Bool
is_changed_somewhere [] name = false
is_changed_somewhere (c ∷ cs) name = bytes_eq c.name name || is_changed_somewhere cs name

-- ---- models that are alike

-- whether one of the modules of a line was created while the run went on
abbrev pub has_created : Lineage → Bool
has_created [] = false
has_created (r ∷ rs) = if is_built r.origin then has_created rs else true

-- what both models have to give a module of that path alike: its type, its inside, the declared
-- sizes of its gates, and its parameters but those that may have changed
abbrev pub has_to_stay : List ChangedParameter → List ℕ → What → Bool
has_to_stay cs path what.Type = true
has_to_stay cs path what.Inside = true
has_to_stay cs path (what.Declared g) = true
has_to_stay cs path (what.Param x) = not (is_changed cs path x)
has_to_stay cs path (what.Condition x) = false
has_to_stay cs path (what.VectorSize x) = false
has_to_stay cs path (what.GateSize g) = false
has_to_stay cs path (what.Sizeof g) = false
has_to_stay cs path (what.Exists x) = false
has_to_stay cs path (what.ExistsAt x k) = false
has_to_stay cs path (what.Member s x) = false
has_to_stay cs path (what.Element s k x) = false
has_to_stay cs path (what.Channel c x) = false
has_to_stay cs path (what.Carrier c) = false
has_to_stay cs path what.Joined = false

-- both models give it the same value, or the same fault
abbrev pub IsSameAt : Model → Model → List ℕ → What → Type 0
IsSameAt m n path w =
    value_of (setting_of m) (module_at path) w ≡ value_of (setting_of n) (module_at path) w

-- TWO MODELS ARE ALIKE BUT IN THESE PARAMETERS, for the modules of these records: they have the same
-- types; whatever has to stay of a module has the same value in both, and so have the type and the
-- inside of the one around it. Of modules that were created while the run went on, and of those
-- within these, nothing is said.
pub record AreAlikeBut (m n : Model) (changed : List ChangedParameter) (records : List Record)
    : Type 0 where
  pub types : m.types ≡ n.types
  pub own : (id : ℕ) → has_created (place_of records id) ≡ false → (w : What)
      → has_to_stay changed (path_of records id) w ≡ true → IsSameAt m n (path_of records id) w
  pub around : (id : ℕ) → has_created (place_of records id) ≡ false → (path : List ℕ)
      → before_last (path_of records id) ≡ Some path
      → IsSameAt m n path what.Type × IsSameAt m n path what.Inside

-- ---- questions

-- whether a question is about a module in whose line none was created, and about no parameter that
-- may have changed. What the network is, and what is inside of a module, is said with the first
-- fault and its path: these may rest on any parameter.
abbrev pub is_spared : List ChangedParameter → List Record → Question → Bool
is_spared cs rs Root = false
is_spared cs rs (TypeOf id) = false
is_spared cs rs (Build id) = false
is_spared cs rs (Param id name) =
    if has_created (place_of rs id) then false else not (is_changed cs (path_of rs id) name)
is_spared cs rs (GateSize id name) = not (has_created (place_of rs id))
is_spared cs rs (Hop id name index) = not (has_created (place_of rs id))
is_spared cs rs (HopBack id name index) = not (has_created (place_of rs id))
is_spared cs rs (BeyondLimit time) = false
is_spared cs rs (InjectionBefore due last) = false

-- MODELS THAT ARE ALIKE BUT IN SOME PARAMETERS give the same answer to a question about no such one
abbrev pub SparedAreAlike : Type 0
SparedAreAlike = (m n : Model) (changed : List ChangedParameter) (records : List Record)
    (q : Question) → AreAlikeBut m n changed records → is_spared changed records q ≡ true
    → answer_of (answers_of m) records q ≡ answer_of (answers_of n) records q
