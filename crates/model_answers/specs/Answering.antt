-- The answers of a model.
use Rattle.std.specs.Prelude.{ℕ, List, Option}
use Rattle.ned_trees.specs.declared.declarations.TypeDeclaration.{TypeDeclaration}
use Rattle.model_data.specs.declared.model.Model.{Model}
use Rattle.model_data.specs.Models.{network_of, time_limit_of}
use Rattle.model_questions.specs.declared.record.Record.{Record}
use Rattle.model_questions.specs.Answers.{Answers}
use Rattle.model_questions.specs.declared.answer.Answer.{Answer}
use Rattle.model_questions.specs.Records.{Lineage, place_of}
use Rattle.module_api.specs.declared.call.Gate.{Gate}
use Rattle.model_inside.specs.declared.hops.Way.{Way}
use Rattle.model_inside.specs.declared.hops.Way.TheVariants.{Onwards, Back}
use Rattle.model_settings.specs.Standings.{setting_of}
use Rattle.model_answers.specs.Insides.{gates_answer, hop_answer, inside_answer}
use Rattle.model_answers.specs.Keyed.{class_answer, declared_answer, lines_of, names_in}
use Rattle.model_answers.specs.Keyed.{param_answer, root_answer, type_in}
use Rattle.model_answers.specs.Lines.{rules_at, site_of}

-- the type of the module that stands there
abbrev pub type_there : Model → Lineage → Option TypeDeclaration
type_there m p = type_in (rules_at m p) p

-- ---- what is answered of the module that stands there

-- its class: `Absent` where it was built
abbrev pub class_there : Model → Lineage → Answer
class_there m p = class_answer (rules_at m p) (site_of p) ((rules_at m p).planned (site_of p))

abbrev pub inside_there : Model → Lineage → Answer
inside_there m p = inside_answer (rules_at m p) (site_of p) (type_there m p)

abbrev pub names_there : Model → Lineage → List (List ℕ)
names_there m p = names_in (lines_of (type_there m p))

abbrev pub value_there : Model → Lineage → List ℕ → Answer
value_there m p name = param_answer (rules_at m p) (site_of p) (type_there m p) name

-- the same, where its type declares one of that name
abbrev pub declared_there : Model → Lineage → List ℕ → Answer
declared_there m p name =
    declared_answer (rules_at m p) (site_of p) (type_there m p) name

abbrev pub gates_there : Model → Lineage → List Gate
gates_there m p = gates_answer (rules_at m p) (site_of p) (type_there m p)

abbrev pub hop_there : Model → Way → Lineage → List ℕ → ℕ → Answer
hop_there m way p name index =
    hop_answer (rules_at m p) way (site_of p) (type_there m p) name index

-- THE ANSWERS of a model: all that a run takes from it
unfoldable pub answers_of : Model → Answers
answers_of m = record {
  root = root_answer (setting_of m) (network_of m);
  class_there = class_there m;
  inside = inside_there m;
  names = names_there m;
  value = value_there m;
  gates = gates_there m;
  hop = hop_there m Onwards;
  hop_back = hop_there m Back;
  time_limit = time_limit_of m;
  injections = m.injections;
}

-- the type of the module of that id
abbrev pub type_at : Model → List Record → ℕ → Option TypeDeclaration
type_at m records id = type_there m (place_of records id)
