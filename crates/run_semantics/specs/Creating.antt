-- Modules that are created while a run goes on.
use Rattle.std.specs.Prelude.{ℕ, ◌+◌, ◌-◌, ◌==◌, suc, zero, Bool, true, false, ◌&&◌, bytes_eq}
use Rattle.std.specs.Prelude.{negsuc, ℤ, List, [], ◌∷◌, ◌++◌, Option, Some, None, length}
use Rattle.std.specs.Prelude.{if◌then◌else◌}
use Rattle.std.specs.List.{list_any}
use Rattle.module_api.specs.declared.reply.Creation.{Creation}
use Rattle.module_api.specs.Names.{is_module_name}
use Rattle.event_set.specs.declared.pending.Happening.TheVariants.{Start}
use Rattle.event_set.specs.Order.{inserted}
use Rattle.model_questions.specs.declared.answer.Answer.{Answer}
use Rattle.model_questions.specs.declared.answer.Answer.TheVariants as answer
use Rattle.model_questions.specs.declared.answer.Question.TheVariants.{TypeOf}
use Rattle.model_questions.specs.Answers.{Answers, answer_of}
use Rattle.model_questions.specs.declared.record.Origin.TheVariants as origin
use Rattle.model_questions.specs.declared.record.Record.{Record}
use Rattle.model_questions.specs.Records.{path_of, path_under, own_name, place_of, record_at}
use Rattle.model_questions.specs.Records.{same_index}
use Rattle.sim_values.specs.declared.model_fault.ModelFault.{ModelFault}
use Rattle.sim_values.specs.declared.model_fault.ModelFault.TheVariants.{TooManyModules}
use Rattle.sim_values.specs.declared.model_fault.ModelFault.TheVariants.{UnknownType, Value}
use Rattle.sim_values.specs.declared.value_fault.ValueFault.TheVariants.{TooDeep}
use Rattle.run_semantics.specs.declared.outcome.RunFault.TheVariants as fault
use Rattle.run_semantics.specs.Building.{most_nested, room_in, set_up}
use Rattle.run_semantics.specs.Deeds.{Flow, On, Broken, ◌>>=◌, broken}
use Rattle.run_semantics.specs.Routes.{is_simple, module_at}
use Rattle.run_semantics.specs.World.{World, asked, live_of}

-- ---- its start

-- the least priority of an event
abbrev pub least_priority : ℤ
least_priority = negsuc 32767

-- THE START of a module that was created, with all that was built in it, is an event of this time
-- that comes before all others of it, but for starts that are waiting
abbrev pub with_start : ℕ → World → World
with_start first w = record w {
  pending = inserted (record {
    time = w.clock;
    priority = least_priority;
    number = w.next;
    id = first;
    what = Start (length w.records);
  }) w.pending;
  next = w.next + 1;
}

abbrev pub awaiting : ℕ → World → Flow
awaiting first w = On (with_start first w)

-- ---- its record

abbrev pub record_for : ℕ → Creation → Option (List ℕ) → Record
record_for parent c class = record {
  parent = parent;
  name = c.name;
  index = c.index;
  class = class;
  origin = origin.Created c.plan;
}

-- the class that is answered, where one is
abbrev pub class_in : Answer → Option (List ℕ)
class_in (answer.Class class) = class
class_in (answer.Root name) = None
class_in (answer.Inside bs) = None
class_in (answer.Value v) = None
class_in (answer.Gate g) = None
class_in (answer.Next next) = None
class_in (answer.Fault path f) = None
class_in (answer.Beyond beyond) = None
class_in (answer.Injection i) = None
class_in answer.Absent = None

abbrev pub with_created : ℕ → Creation → Option (List ℕ) → World → World
with_created parent c class w = record w { records = w.records ++ record_for parent c class ∷ [] }

-- what the model answers of its class, which no record of it decides
abbrev pub class_answer : Answers → ℕ → Creation → World → Answer
class_answer m parent c w =
    answer_of m (with_created parent c None w).records (TypeOf (suc (length w.records)))

-- A MODULE IS CREATED AS ITS MODEL ANSWERS: its class is asked, it is there with that class, or
-- with none where that is a fault, and what goes on is told the answer
abbrev pub creating : Answers → ℕ → Creation → (Answer → World → Flow) → World → Flow
creating m parent c next w = next (class_answer m parent c w)
    (asked (TypeOf (suc (length w.records)))
    (with_created parent c (class_in (class_answer m parent c w)) w))

-- ---- its inside

abbrev pub built_by : Answers → ℕ → ℕ → Option (List ℕ) → World → Flow
built_by m levels first (Some class) w = awaiting first w
built_by m levels first None w = set_up levels m first w >>= awaiting first

-- a compound module is set up, with as many levels as are left for it; then it waits for its start
abbrev pub built_as : Answers → ℕ → ℕ → Answer → World → Flow
built_as m levels first (answer.Class class) w = built_by m levels first class w
built_as m levels first (answer.Fault path f) w = Broken w path (fault.Model f)
built_as m levels first (answer.Root name) w = broken first (fault.Model UnknownType) w
built_as m levels first (answer.Inside bs) w = broken first (fault.Model UnknownType) w
built_as m levels first (answer.Value v) w = broken first (fault.Model UnknownType) w
built_as m levels first (answer.Gate g) w = broken first (fault.Model UnknownType) w
built_as m levels first (answer.Next next) w = broken first (fault.Model UnknownType) w
built_as m levels first (answer.Beyond beyond) w = broken first (fault.Model UnknownType) w
built_as m levels first (answer.Injection i) w = broken first (fault.Model UnknownType) w
built_as m levels first answer.Absent w = broken first (fault.Model UnknownType) w

-- ---- whether it can be created

-- whether a record is of a submodule of that one with that name and index
abbrev pub is_called : ℕ → Creation → Option Record → Bool
is_called parent c None = false
is_called parent c (Some r) =
    (r.parent == parent) && (bytes_eq r.name c.name && same_index r.index c.index)

-- whether a submodule that lives has its name and index
abbrev pub has_namesake : ℕ → Creation → World → Bool
has_namesake parent c w = list_any (λ n. is_called parent c (record_at w.records n)) (live_of w)

-- whether there is room for no more
abbrev pub is_full : ℕ → Bool
is_full zero = true
is_full (suc room) = false

-- how many levels there are for what stands in a module, by those in which it stands itself:
-- modules are nested at most 32 deep
abbrev pub levels_in : ℕ → World → ℕ
levels_in parent w = most_nested - length (place_of w.records parent)

-- the path that it would have is told
abbrev pub refused : ℕ → Creation → ModelFault → World → Flow
refused parent c f w =
    Broken w (path_under (path_of w.records parent) (own_name c.name c.index)) (fault.Model f)

abbrev pub created_as : Answers → ℕ → Creation → World → Flow
created_as m parent c w =
    if is_full (room_in w) then refused parent c TooManyModules w
    else (if is_full (levels_in parent w) then refused parent c (Value TooDeep) w
    else creating m parent c (built_as m (levels_in parent w) (suc (length w.records))) w)

abbrev pub created_by : Answers → ℕ → Creation → World → ℕ → Flow
created_by m id c w parent =
    if is_simple w.records parent then broken id fault.NoModule w
    else (if is_module_name c.name
    then (if has_namesake parent c w then broken id fault.DuplicateName w
    else created_as m parent c w) else broken id fault.BadName w)

abbrev pub created_in : Answers → ℕ → Creation → World → Option ℕ → Flow
created_in m id c w None = broken id fault.NoModule w
created_in m id c w (Some parent) = created_by m id c w parent

-- A MODULE IS CREATED in a compound one that lives, and built (OMNeT++ Simulation Manual, "Creating
-- Modules")
abbrev pub created_new : Answers → ℕ → Creation → World → Flow
created_new m id c w = created_in m id c w (module_at c.parent w)
