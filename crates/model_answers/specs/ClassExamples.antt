-- Classes of modules that were created while a model ran, worked by hand.
use Rattle.std.specs.Prelude.{◌≡◌, ℕ, ℤ, pos, negsuc, true, false, List, [], ◌∷◌, Some, None, codes}
use Rattle.ini_trees.specs.declared.entry.EntryMeaning.TheVariants as meaning
use Rattle.ini_trees.specs.declared.lines.LineMeaning.TheVariants as ini
use Rattle.model_data.specs.declared.model.Model.{Model}
use Rattle.model_questions.specs.declared.answer.Answer.{Answer}
use Rattle.model_questions.specs.declared.answer.Answer.TheVariants as answer
use Rattle.model_questions.specs.declared.record.Origin.{Origin}
use Rattle.model_questions.specs.declared.record.Origin.TheVariants as origin
use Rattle.model_questions.specs.Records.{Lineage}
use Rattle.module_api.specs.declared.reply.FixedSize.{FixedSize}
use Rattle.module_api.specs.declared.reply.FixedValue.{FixedValue}
use Rattle.ned_trees.specs.declared.declarations.GateDirection.TheVariants.{Input}
use Rattle.ned_trees.specs.declared.declarations.GateLine.{GateLine}
use Rattle.ned_trees.specs.declared.declarations.GateLine.TheVariants as gate
use Rattle.ned_trees.specs.declared.declarations.GateSize.{GateSize}
use Rattle.ned_trees.specs.declared.declarations.GateSize.TheVariants as size
use Rattle.ned_trees.specs.declared.declarations.ParameterWord.TheVariants.{Int}
use Rattle.ned_trees.specs.declared.declarations.SectionLine.{SectionLine}
use Rattle.ned_trees.specs.declared.declarations.SectionLine.TheVariants as line
use Rattle.ned_trees.specs.declared.declarations.TypeDeclaration.{TypeDeclaration}
use Rattle.ned_trees.specs.declared.declarations.TypeKind.{TypeKind}
use Rattle.ned_trees.specs.declared.declarations.TypeKind.TheVariants as kind
use Rattle.sim_values.specs.declared.model_fault.ModelFault.{ModelFault}
use Rattle.sim_values.specs.declared.model_fault.ModelFault.TheVariants as fault
use Rattle.sim_values.specs.declared.value.Value.{Value}
use Rattle.sim_values.specs.declared.value.Value.TheVariants as value
use Rattle.sim_values.specs.declared.value_fault.ValueFault.TheVariants.{Mismatch, Unassigned}
use Rattle.model_answers.specs.Answering.{class_there}

abbrev pub type_with : TypeKind → List ℕ → List SectionLine → List GateLine → TypeDeclaration
type_with kind name lines gates = record {
  kind = kind;
  name = name;
  base = None;
  interfaces = [];
  lines = lines;
  gates = gates;
  submodules = [];
  connections = record { allow_unconnected = false; items = [] };
}

-- `input NAME;` or `input NAME[];`
abbrev pub input : List ℕ → GateSize → GateLine
input name size =
    gate.Declaration (record { name = name; direction = Input; size = size; loose = false })

-- `simple Worker { parameters: int count; gates: input in[]; input one; }`
abbrev pub worker : TypeDeclaration
worker = type_with kind.Simple (codes "Worker")
    (line.Declaration (record { name = codes "count"; word = Int; unit = None; value = None }) ∷ [])
    (input (codes "in") size.Open ∷ input (codes "one") size.Single ∷ [])

-- `network N {}`, in which modules are created, and besides `Worker` the types `module Box {}` and
-- `channel Wire {}`
abbrev pub the_model : Model
the_model = record {
  files = [];
  types = type_with kind.Network (codes "N") [] [] ∷ worker
      ∷ type_with kind.Module (codes "Box") [] [] ∷ type_with kind.Channel (codes "Wire") [] []
      ∷ [];
  ini =
      record { text = codes "[General]"; meaning = ini.Section (codes "General") }
      ∷ record {
        text = codes "network = N";
        meaning = ini.Entry (record {
          key = codes "network";
          value = codes "N";
          meaning = meaning.Network (codes "N");
        });
      }
      ∷ [];
  config = codes "General";
  chain = codes "General" ∷ [];
  injections = [];
  last_injection = 0;
}

-- the module `N.w` of that origin
abbrev pub line_with : Origin → Lineage
line_with made =
    record { parent = 1; name = codes "w"; index = None; class = None; origin = made }
    ∷ record { parent = 0; name = codes "N"; index = None; class = None; origin = origin.Built }
    ∷ []

-- its class, where it was created as a type of that name
abbrev pub class_as : List ℕ → List FixedValue → List FixedSize → Answer
class_as name values sizes = class_there the_model (line_with (origin.Created
    (record { type_name = name; parameters = values; sizes = sizes })))

abbrev pub with_value : List ℕ → Value → List FixedValue
with_value name v = record { name = name; value = v } ∷ []

abbrev pub with_size : List ℕ → ℤ → List FixedSize
with_size name n = record { name = name; size = n } ∷ []

-- `count = 3`
abbrev pub three : List FixedValue
three = with_value (codes "count") (value.Whole (pos 3))

abbrev pub worker_with : List FixedValue → List FixedSize → Answer
worker_with = class_as (codes "Worker")

abbrev pub refused : ModelFault → Answer
refused f = answer.Fault (codes "N.w") f

-- THE ROWS
pub record AreClasses : Type 0 where
  pub simple : worker_with three (with_size (codes "in") (pos 2))
      ≡ answer.Class (Some (codes "Worker"))
  pub compound : class_as (codes "Box") [] [] ≡ answer.Class None
  pub network : class_as (codes "N") [] [] ≡ answer.Class None
  -- what was built with the module around it has none that is told
  pub built : class_there the_model (line_with origin.Built) ≡ answer.Absent
  -- nothing has that name; channels are no types of modules
  pub unknown : class_as (codes "Nothing") [] [] ≡ refused fault.UnknownType
  pub channel : class_as (codes "Wire") [] [] ≡ refused fault.UnknownType
  pub built_in : class_as (codes "DelayChannel") [] [] ≡ refused fault.UnknownType
  -- a value of no parameter
  pub undeclared : class_as (codes "Box") three [] ≡ refused (fault.Value Mismatch)
  -- a size of what is no vector, and of no gate
  pub no_vector : worker_with three (with_size (codes "one") (pos 1)) ≡ refused fault.NoGate
  pub no_gate : worker_with three (with_size (codes "two") (pos 1)) ≡ refused fault.NoGate
  -- a parameter without a value, and one with a value of another kind; a size below 0
  pub missing : worker_with [] [] ≡ refused (fault.Value Unassigned)
  pub wrong_kind : worker_with (with_value (codes "count") (value.Truth true)) []
      ≡ refused (fault.Value Mismatch)
  pub below : worker_with three (with_size (codes "in") (negsuc 0)) ≡ refused fault.GateSize
  -- of several the first counts: the type, a value of no parameter, a size of no vector, the
  -- parameters, the sizes
  pub type_first : class_as (codes "Wire") three [] ≡ refused fault.UnknownType
  pub value_first : worker_with (with_value (codes "pace") (value.Whole (pos 1)))
      (with_size (codes "one") (pos 1)) ≡ refused (fault.Value Mismatch)
  pub size_first : worker_with [] (with_size (codes "one") (pos 1)) ≡ refused fault.NoGate
  pub parameter_first : worker_with [] (with_size (codes "in") (negsuc 0))
      ≡ refused (fault.Value Unassigned)
