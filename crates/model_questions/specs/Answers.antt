-- What a run takes from its model: answers.
use Rattle.std.specs.Prelude.{ℕ, nat_lt, Bool, true, false, List, [], ◌∷◌, Option, Some, None}
use Rattle.std.specs.Prelude.{bytes_eq, if◌then◌else◌}
use Rattle.model_injections.specs.declared.injection.Injection.{Injection}
use Rattle.model_injections.specs.Injections.{injection_before}
use Rattle.module_api.specs.declared.call.Gate.{Gate}
use Rattle.module_api.specs.declared.call.Parameter.{Parameter}
use Rattle.model_questions.specs.declared.answer.Answer.{Answer}
use Rattle.model_questions.specs.declared.answer.Answer.TheVariants as answer
use Rattle.model_questions.specs.declared.answer.Question.{Question}
use Rattle.model_questions.specs.declared.answer.Question.TheVariants as question
use Rattle.model_questions.specs.declared.record.Record.{Record}
use Rattle.model_questions.specs.Gates.{gate_named}
use Rattle.model_questions.specs.Records.{Lineage, place_of, untyped}

-- THE ANSWERS of a model are all that a run takes from it: which network is run; the class of a
-- module that was created while the run went on, by where it stands; what is inside of
-- a module, which parameters it declares, by their names and in their order, the value of one of
-- these, its gates, in their order, each with its size, and for a gate of that name and index the
-- next gate that a message comes to, with the channel on the way, and the one from which a message
-- comes from outside, each by where the module stands; the time after which no event is executed,
-- in picoseconds; and the injections.
pub record Answers : Type 0 where
  pub root : Answer
  pub class_there : Lineage → Answer
  pub inside : Lineage → Answer
  pub names : Lineage → List (List ℕ)
  pub value : Lineage → List ℕ → Answer
  pub gates : Lineage → List Gate
  pub hop : Lineage → List ℕ → ℕ → Answer
  pub hop_back : Lineage → List ℕ → ℕ → Answer
  pub time_limit : Option ℕ
  pub injections : List Injection

-- whether a parameter is one of these
abbrev pub is_declared : List ℕ → List (List ℕ) → Bool
is_declared name [] = false
is_declared name (n ∷ ns) = if bytes_eq n name then true else is_declared name ns

-- the value of a parameter of the module that stands there
abbrev pub value_at : Answers → Lineage → List ℕ → Answer
value_at a p name = if is_declared name (a.names p) then a.value p name else answer.Absent

-- whether a time is later than the limit, where there is one: a time equal to it is not
abbrev pub is_beyond : Option ℕ → ℕ → Bool
is_beyond None time = false
is_beyond (Some limit) time = nat_lt limit time

-- THE ANSWER to a question, with the modules of these records
abbrev pub answer_of : Answers → List Record → Question → Answer
answer_of a records question.Root = a.root
answer_of a records (question.TypeOf id) = a.class_there (untyped (place_of records id))
answer_of a records (question.Build id) = a.inside (place_of records id)
answer_of a records (question.Param id name) = value_at a (place_of records id) name
answer_of a records (question.GateSize id name) = gate_named name (a.gates (place_of records id))
answer_of a records (question.Hop id name index) = a.hop (place_of records id) name index
answer_of a records (question.HopBack id name index) = a.hop_back (place_of records id) name index
answer_of a records (question.BeyondLimit time) = answer.Beyond (is_beyond a.time_limit time)
answer_of a records (question.InjectionBefore due last) =
    answer.Injection (injection_before due last a.injections)

-- ---- the parameters of a module, as a call shows them

abbrev pub with_value : List ℕ → Answer → List Parameter → List Parameter
with_value name (answer.Value v) rest = record { name = name; value = v } ∷ rest
with_value name (answer.Root network) rest = rest
with_value name (answer.Class class) rest = rest
with_value name (answer.Inside bs) rest = rest
with_value name (answer.Gate g) rest = rest
with_value name (answer.Next next) rest = rest
with_value name (answer.Fault path f) rest = rest
with_value name (answer.Beyond beyond) rest = rest
with_value name (answer.Injection i) rest = rest
with_value name answer.Absent rest = rest

abbrev pub with_values : (List ℕ → Answer) → List (List ℕ) → List Parameter
with_values values [] = []
with_values values (n ∷ ns) = with_value n (values n) (with_values values ns)

-- all parameters of a module, in the order of their declaration, each where it has a value
abbrev pub parameters_of : Answers → List Record → ℕ → List Parameter
parameters_of a records id =
    with_values (a.value (place_of records id)) (a.names (place_of records id))

-- all gates of a module, in the order of their declaration, as a call shows them
abbrev pub gates_of : Answers → List Record → ℕ → List Gate
gates_of a records id = a.gates (place_of records id)
