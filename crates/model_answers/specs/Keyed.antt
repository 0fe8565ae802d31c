-- Values of keys, in a model: types of modules, parameters, and what is wrong with the network.
use Rattle.std.specs.Prelude.{ℕ, List, [], ◌∷◌, Option, Some, None, Result, Ok, Err, slice_get}
use Rattle.std.specs.Prelude.{Bool, if◌then◌else◌, is_some, not}
use Rattle.std.specs.List.{list_any}
use Rattle.std.specs.Option.{option_and_then}
use Rattle.std.specs.Result.{result_ok}
use Rattle.ned_trees.specs.declared.declarations.SectionLine.{SectionLine}
use Rattle.ned_trees.specs.declared.declarations.SectionLine.TheVariants as line
use Rattle.ned_trees.specs.declared.declarations.TypeDeclaration.{TypeDeclaration}
use Rattle.ned_types.specs.Flat.{or_else}
use Rattle.ned_types.specs.Types.{name_in}
use Rattle.sim_values.specs.declared.model_fault.ModelFault.{ModelFault}
use Rattle.sim_values.specs.declared.model_fault.ModelFault.TheVariants as fault
use Rattle.sim_values.specs.declared.model_fault.ModelFault.TheVariants.{NoGate}
use Rattle.sim_values.specs.declared.value_fault.ValueFault.TheVariants.{Mismatch}
use Rattle.inside_parts.specs.declared.gates.TypeGate.{TypeGate}
use Rattle.inside_parts.specs.declared.gates.TypeGates.{TypeGates}
use Rattle.inside_parts.specs.Gates as type_gates
use Rattle.inside_keys.specs.declared.found.Found.{Found}
use Rattle.inside_keys.specs.declared.found.Found.TheVariants as found
use Rattle.inside_keys.specs.declared.key.Module.{Module}
use Rattle.inside_keys.specs.declared.key.What.{What}
use Rattle.inside_keys.specs.declared.key.What.TheVariants as what
use Rattle.inside_keys.specs.declared.planned.Planned.{Planned}
use Rattle.inside_keys.specs.Asked.{numbered_by}
use Rattle.inside_keys.specs.Given.{misplaced}
use Rattle.inside_keys.specs.Keys.{key}
use Rattle.inside_keys.specs.Settings.{ModuleRules}
use Rattle.inside_keys.specs.Values.{value_at}
use Rattle.module_api.specs.declared.call.Parameter.{Parameter}
use Rattle.model_inside.specs.Built.{class_to_build}
use Rattle.model_questions.specs.declared.answer.Answer.{Answer}
use Rattle.model_questions.specs.declared.answer.Answer.TheVariants as answer
use Rattle.model_questions.specs.declared.record.Record.{Record}
use Rattle.model_questions.specs.Answers.{is_declared, with_values}
use Rattle.model_questions.specs.Records.{Lineage, record_there}
use Rattle.model_answers.specs.Lines.{site_of}

-- the module of that path, where none was created while the model ran
abbrev pub module_at : List ℕ → Module
module_at path = record { created = 0; path = path }

-- what something of a module has as its value
abbrev pub value_of : ModuleRules → Module → What → Result Found ModelFault
value_of s m w = value_at s (key m w)

-- ---- types

abbrev pub number_in : Result Found ModelFault → Option ℕ
number_in (Ok (found.Value v)) = result_ok (numbered_by v)
number_in (Ok (found.Carrier c)) = None
number_in (Ok (found.Inside i)) = None
number_in (Err f) = None

abbrev pub maybe_number : Option (Result Found ModelFault) → Option ℕ
maybe_number None = None
maybe_number (Some found) = number_in found

abbrev pub type_at_number : List TypeDeclaration → Option ℕ → Option TypeDeclaration
type_at_number types None = None
type_at_number types (Some n) = slice_get types n

-- the type of a module, none where it has none
abbrev pub type_of : ModuleRules → Module → Option TypeDeclaration
type_of s m = type_at_number s.types (number_in (value_of s m what.Type))

-- THE TYPE of the module of a place, where there is such a module
abbrev pub type_in : ModuleRules → Lineage → Option TypeDeclaration
type_in s p = option_and_then (λ (r : Record). type_of s (site_of p)) (record_there p)

-- the lines of a type, where there is one
abbrev pub lines_of : Option TypeDeclaration → List SectionLine
lines_of None = []
lines_of (Some t) = t.lines

-- the names of the parameters that these lines declare, in their order
abbrev pub names_in : List SectionLine → List (List ℕ)
names_in [] = []
names_in (line.Declaration d ∷ ls) = d.name ∷ names_in ls
names_in (line.Assignment a ∷ ls) = names_in ls
names_in (line.Statistic s ∷ ls) = names_in ls
names_in (line.Class name ∷ ls) = names_in ls
names_in (line.Ignored ∷ ls) = names_in ls

-- what is answered of a module that has a type
abbrev pub typed : Option TypeDeclaration → (TypeDeclaration → Answer) → Answer
typed None answered = answer.Absent
typed (Some t) answered = answered t

-- ---- parameters

abbrev pub value_answer : List ℕ → Result Found ModelFault → Answer
value_answer path (Ok (found.Value v)) = answer.Value v
value_answer path (Err f) = answer.Fault path f
value_answer path (Ok _) = answer.Absent

-- the value of a parameter of a module, or its fault, which has the module's path
abbrev pub value_in : ModuleRules → Module → List ℕ → Answer
value_in s m name = value_answer m.path (value_of s m (what.Param name))

-- THE VALUE OF A PARAMETER of a module of that type
abbrev pub param_answer : ModuleRules → Module → Option TypeDeclaration → List ℕ → Answer
param_answer s m None name = answer.Absent
param_answer s m (Some t) name = value_in s m name

-- the same, where its type declares one of that name
abbrev pub declared_answer : ModuleRules → Module → Option TypeDeclaration → List ℕ → Answer
declared_answer s m t name =
    if is_declared name (names_in (lines_of t)) then param_answer s m t name else answer.Absent

-- the parameters of a module of that type that have values, in the order of their declaration
abbrev pub parameters_by : ModuleRules → Module → Option TypeDeclaration → List Parameter
parameters_by s m t = with_values (param_answer s m t) (names_in (lines_of t))

-- ---- the network

abbrev pub fault_in : Result Found ModelFault → Option ModelFault
fault_in (Ok v) = None
fault_in (Err f) = Some f

abbrev pub maybe_fault : Option (Result Found ModelFault) → Option ModelFault
maybe_fault None = None
maybe_fault (Some found) = fault_in found

-- the fault of the parameter of a module that a line declares
abbrev pub fault_of_line : ModuleRules → Module → SectionLine → Option ModelFault
fault_of_line s m (line.Declaration d) = fault_in (value_of s m (what.Param d.name))
fault_of_line s m (line.Assignment a) = None
fault_of_line s m (line.Statistic t) = None
fault_of_line s m (line.Class name) = None
fault_of_line s m line.Ignored = None

-- the first fault of the parameters that these lines declare
abbrev pub fault_of_lines : ModuleRules → Module → List SectionLine → Option ModelFault
fault_of_lines s m [] = None
fault_of_lines s m (l ∷ ls) = or_else (fault_of_line s m l) (fault_of_lines s m ls)

-- the fault of the declared size of a gate
abbrev pub fault_of_size : ModuleRules → Module → TypeGate → Option ModelFault
fault_of_size s m g =
    if g.kind.is_vector then fault_in (value_of s m (what.Declared g.name)) else None

-- the first fault of the declared sizes of these gates
abbrev pub fault_of_sizes : ModuleRules → Module → List TypeGate → Option ModelFault
fault_of_sizes s m [] = None
fault_of_sizes s m (g ∷ gs) = or_else (fault_of_size s m g) (fault_of_sizes s m gs)

-- the fault of a line for what is no gate, or of a size for what is no gate vector
abbrev pub fault_of_misplaced : ModuleRules → Module → Option (List ℕ) → Option ModelFault
fault_of_misplaced s m None = None
fault_of_misplaced s m (Some name) = fault_in (value_of s m (what.Declared name))

-- the first fault of the sizes that a type gives its gates
abbrev pub fault_of_gates : ModuleRules → Module → TypeDeclaration → TypeGates → Option ModelFault
fault_of_gates s m t gates = or_else (fault_of_misplaced s m (misplaced gates t.gates))
    (fault_of_sizes s m gates.gates)

-- the first fault of the network of that type: of its parameters, and then of the sizes of its
-- gates
abbrev pub fault_of_network : ModuleRules → TypeDeclaration → Option ModelFault
fault_of_network s t = or_else (fault_of_lines s (module_at t.name) t.lines)
    (fault_of_gates s (module_at t.name) t (type_gates.gates_of t.gates))

abbrev pub root_without : TypeDeclaration → Option ModelFault → Answer
root_without t (Some f) = answer.Fault t.name f
root_without t None = answer.Root t.name

-- WHICH NETWORK IS RUN, or its first fault: its path is its name
abbrev pub root_answer : ModuleRules → Option TypeDeclaration → Answer
root_answer s None = answer.Absent
root_answer s (Some t) = root_without t (fault_of_network s t)

-- ---- modules that were created

-- whether a line names what is no parameter that these lines declare
abbrev pub is_undeclared : List SectionLine → SectionLine → Bool
is_undeclared lines l = not (is_declared (name_in l) (names_in lines))

-- what is wrong with a plan, whatever its values are: one is given to what is no parameter of the
-- type, or a size to what is no gate vector
abbrev pub fault_of_plan : TypeDeclaration → TypeGates → Planned → Option ModelFault
fault_of_plan t gates p =
    if list_any (λ l. is_undeclared t.lines l) p.body.lines then Some (fault.Value Mismatch)
    else if is_some (misplaced gates p.body.gates) then Some NoGate else None

-- the first fault of a module of that type that was created so: of its plan, of its parameters,
-- and then of the sizes of its gates
abbrev pub fault_of_created : ModuleRules → Module → TypeDeclaration → TypeGates → Planned
    → Option ModelFault
fault_of_created s m t gates p = or_else (fault_of_plan t gates p)
    (or_else (fault_of_lines s m t.lines) (fault_of_gates s m t gates))

abbrev pub class_without : Module → TypeDeclaration → Option ModelFault → Answer
class_without m t (Some f) = answer.Fault m.path f
class_without m t None = answer.Class (class_to_build t)

-- by the fault of its type, or else by its type
abbrev pub class_by : ModuleRules → Module → Planned → Option ModelFault → Option TypeDeclaration
    → Answer
class_by s m p (Some f) t = answer.Fault m.path f
class_by s m p None t = typed t
    (λ u. class_without m u (fault_of_created s m u (type_gates.gates_of u.gates) p))

-- THE CLASS of a module that was created while the run went on, none of a compound module; or its
-- first fault, with its path
abbrev pub class_answer : ModuleRules → Module → Option Planned → Answer
class_answer s m None = answer.Absent
class_answer s m (Some p) =
    class_by s m p (fault_in (value_of s m what.Type)) (type_of s m)
