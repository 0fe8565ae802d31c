-- Answers that are the same, by what they hold.
use Rattle.std.specs.Prelude.{ℕ, ◌==◌, Bool, true, false, ◌&&◌, bytes_eq, List, [], ◌∷◌, Option}
use Rattle.std.specs.Prelude.{Some, None}
use Rattle.std.specs.Bool.{beq}
use Rattle.std.specs.Ordering.{int_eq}
use denote.Enum.Bare.{sameb}
use Rattle.sim_values.specs.contracts.value.Dimension as dimension_kind
use Rattle.sim_values.specs.declared.value.Value.{Value}
use Rattle.sim_values.specs.declared.value.Value.TheVariants as value
use Rattle.sim_values.specs.contracts.value_fault.ValueFault as fault_kind
use Rattle.sim_values.specs.declared.model_fault.ModelFault.{ModelFault}
use Rattle.sim_values.specs.declared.model_fault.ModelFault.TheVariants as fault
use Rattle.model_questions.specs.declared.answer.Answer.{Answer}
use Rattle.model_questions.specs.declared.answer.Answer.TheVariants as answer
use Rattle.model_questions.specs.declared.answer.Built.{Built}
use Rattle.module_api.specs.contracts.call.Direction as direction_kind
use Rattle.module_api.specs.declared.call.Gate.{Gate}
use Rattle.model_questions.specs.contracts.answer.ChannelKind as channel_kind
use Rattle.model_questions.specs.declared.answer.Channel.{Channel}
use Rattle.model_questions.specs.declared.answer.Neighbour.{Neighbour}
use Rattle.model_questions.specs.declared.answer.Neighbour.TheVariants as neighbour
use Rattle.model_questions.specs.declared.answer.NextGate.{NextGate}
use Rattle.model_injections.specs.declared.injection.Injection.{Injection}

abbrev pub same_value : Value → Value → Bool
same_value (value.Whole a) (value.Whole b) = int_eq a b
same_value (value.Whole a) _ = false
same_value (value.Truth a) (value.Truth b) = beq a b
same_value (value.Truth a) _ = false
same_value (value.Text a) (value.Text b) = bytes_eq a b
same_value (value.Text a) _ = false
same_value (value.Quantity d a) (value.Quantity e b) =
    sameb dimension_kind.the_type d e && int_eq a b
same_value (value.Quantity d a) _ = false

abbrev pub same_class : Option (List ℕ) → Option (List ℕ) → Bool
same_class None None = true
same_class None (Some b) = false
same_class (Some a) None = false
same_class (Some a) (Some b) = bytes_eq a b

abbrev pub same_index : Option ℕ → Option ℕ → Bool
same_index None None = true
same_index None (Some b) = false
same_index (Some a) None = false
same_index (Some a) (Some b) = a == b

abbrev pub same_built : Built → Built → Bool
same_built a b = bytes_eq a.name b.name
    && (same_index a.index b.index && same_class a.class b.class)

abbrev pub same_inside : List Built → List Built → Bool
same_inside [] [] = true
same_inside [] (b ∷ ys) = false
same_inside (a ∷ xs) [] = false
same_inside (a ∷ xs) (b ∷ ys) = same_built a b && same_inside xs ys

abbrev pub same_due : Injection → Injection → Bool
same_due a b = (a.due.time == b.due.time) && int_eq a.due.priority b.due.priority

abbrev pub same_message : Injection → Injection → Bool
same_message a b = int_eq a.kind b.kind && ((a.bits == b.bits) && bytes_eq a.payload b.payload)

abbrev pub same_injection : Injection → Injection → Bool
same_injection a b =
    (a.number == b.number) && (bytes_eq a.path b.path && (same_due a b && same_message a b))

abbrev pub same_next : Option Injection → Option Injection → Bool
same_next None None = true
same_next None (Some b) = false
same_next (Some a) None = false
same_next (Some a) (Some b) = same_injection a b

abbrev pub same_injections : List Injection → List Injection → Bool
same_injections [] [] = true
same_injections [] (b ∷ ys) = false
same_injections (a ∷ xs) [] = false
same_injections (a ∷ xs) (b ∷ ys) = same_injection a b && same_injections xs ys

abbrev pub same_names : List (List ℕ) → List (List ℕ) → Bool
same_names [] [] = true
same_names [] (b ∷ ys) = false
same_names (a ∷ xs) [] = false
same_names (a ∷ xs) (b ∷ ys) = bytes_eq a b && same_names xs ys

abbrev pub same_gate : Gate → Gate → Bool
same_gate a b = bytes_eq a.name b.name
    && (sameb direction_kind.the_type a.direction b.direction && (a.size == b.size))

abbrev pub same_neighbour : Neighbour → Neighbour → Bool
same_neighbour neighbour.Itself neighbour.Itself = true
same_neighbour neighbour.Itself _ = false
same_neighbour neighbour.Around neighbour.Around = true
same_neighbour neighbour.Around _ = false
same_neighbour (neighbour.Beside a i) (neighbour.Beside b k) = bytes_eq a b && same_index i k
same_neighbour (neighbour.Beside a i) _ = false
same_neighbour (neighbour.Inside a i) (neighbour.Inside b k) = bytes_eq a b && same_index i k
same_neighbour (neighbour.Inside a i) _ = false

abbrev pub same_channel : Channel → Channel → Bool
same_channel a b = sameb channel_kind.the_type a.kind b.kind
    && ((a.delay == b.delay) && ((a.datarate == b.datarate) && beq a.disabled b.disabled))

abbrev pub same_hop : NextGate → NextGate → Bool
same_hop a b = same_neighbour a.neighbour b.neighbour
    && (bytes_eq a.gate b.gate && ((a.index == b.index) && same_channel a.channel b.channel))

abbrev pub same_end : Option NextGate → Option NextGate → Bool
same_end None None = true
same_end None (Some b) = false
same_end (Some a) None = false
same_end (Some a) (Some b) = same_hop a b

abbrev pub same_fault : ModelFault → ModelFault → Bool
same_fault (fault.Value f) (fault.Value g) = sameb fault_kind.the_type f g
same_fault (fault.Value f) _ = false
same_fault fault.UnknownType fault.UnknownType = true
same_fault fault.UnknownType _ = false
same_fault fault.Interface fault.Interface = true
same_fault fault.Interface _ = false
same_fault fault.GateSize fault.GateSize = true
same_fault fault.GateSize _ = false
same_fault fault.NoGate fault.NoGate = true
same_fault fault.NoGate _ = false
same_fault fault.AlreadyConnected fault.AlreadyConnected = true
same_fault fault.AlreadyConnected _ = false
same_fault fault.Unconnected fault.Unconnected = true
same_fault fault.Unconnected _ = false
same_fault fault.TooManyTurns fault.TooManyTurns = true
same_fault fault.TooManyTurns _ = false
same_fault fault.TooManyModules fault.TooManyModules = true
same_fault fault.TooManyModules _ = false

-- whether two answers are the same
abbrev pub same_answer : Answer → Answer → Bool
same_answer (answer.Root a) (answer.Root b) = bytes_eq a b
same_answer (answer.Root a) _ = false
same_answer (answer.Class a) (answer.Class b) = same_class a b
same_answer (answer.Class a) _ = false
same_answer (answer.Inside a) (answer.Inside b) = same_inside a b
same_answer (answer.Inside a) _ = false
same_answer (answer.Value a) (answer.Value b) = same_value a b
same_answer (answer.Value a) _ = false
same_answer (answer.Gate a) (answer.Gate b) = same_gate a b
same_answer (answer.Gate a) _ = false
same_answer (answer.Next a) (answer.Next b) = same_end a b
same_answer (answer.Next a) _ = false
same_answer (answer.Fault a f) (answer.Fault b g) = bytes_eq a b && same_fault f g
same_answer (answer.Fault a f) _ = false
same_answer (answer.Beyond a) (answer.Beyond b) = beq a b
same_answer (answer.Beyond a) _ = false
same_answer (answer.Injection a) (answer.Injection b) = same_next a b
same_answer (answer.Injection a) _ = false
same_answer answer.Absent answer.Absent = true
same_answer answer.Absent _ = false
