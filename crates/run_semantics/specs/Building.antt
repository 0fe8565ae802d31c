-- Modules that are built.
use Rattle.std.specs.Prelude.{ℕ, suc, zero, ◌-◌, min, List, [], ◌∷◌, ◌++◌, Option, Some, None, map}
use Rattle.std.specs.Prelude.{length, slice_get}
use Rattle.model_questions.specs.declared.answer.Answer.{Answer}
use Rattle.model_questions.specs.declared.answer.Answer.TheVariants as answer
use Rattle.model_questions.specs.declared.answer.Built.{Built}
use Rattle.model_questions.specs.declared.answer.Question.TheVariants.{Build}
use Rattle.model_questions.specs.Answers.{Answers}
use Rattle.model_questions.specs.declared.record.Origin.TheVariants as origin
use Rattle.model_questions.specs.declared.record.Record.{Record}
use Rattle.model_questions.specs.Records.{path_of, path_under, own_name}
use Rattle.sim_values.specs.declared.model_fault.ModelFault.TheVariants.{TooManyModules}
use Rattle.sim_values.specs.declared.model_fault.ModelFault.TheVariants.{UnknownType}
use Rattle.run_semantics.specs.declared.outcome.RunFault.TheVariants as fault
use Rattle.run_semantics.specs.World.{World, live_count}
use Rattle.run_semantics.specs.Deeds.{Flow, On, Broken, ◌>>=◌, asking, broken, for_each}

abbrev pub record_under : ℕ → Built → Record
record_under parent b = record {
  parent = parent;
  name = b.name;
  index = b.index;
  class = b.class;
  origin = origin.Built;
}

abbrev pub with_submodules : ℕ → List Built → World → World
with_submodules parent bs w = record w { records = w.records ++ map (record_under parent) bs }

-- how many more modules can be created: at most 65,536 live, and a run creates at most 1,000,000
abbrev pub room_in : World → ℕ
room_in w = min (65536 - live_count w) (1000000 - length w.records)

-- the module that would be one too many is told
abbrev pub unless_many : ℕ → List Built → World → Option Built → Flow
unless_many parent bs w (Some b) = Broken w
    (path_under (path_of w.records parent) (own_name b.name b.index)) (fault.Model TooManyModules)
unless_many parent bs w None = On (with_submodules parent bs w)

-- submodules are created, in their order, as was answered
abbrev pub created : ℕ → Answer → World → Flow
created parent (answer.Inside bs) w = unless_many parent bs w (slice_get bs (room_in w))
created parent (answer.Fault path f) w = Broken w path (fault.Model f)
created parent (answer.Root name) w = broken parent (fault.Model UnknownType) w
created parent (answer.Class class) w = broken parent (fault.Model UnknownType) w
created parent (answer.Value v) w = broken parent (fault.Model UnknownType) w
created parent (answer.Gate g) w = broken parent (fault.Model UnknownType) w
created parent (answer.Next next) w = broken parent (fault.Model UnknownType) w
created parent (answer.Beyond beyond) w = broken parent (fault.Model UnknownType) w
created parent (answer.Injection i) w = broken parent (fault.Model UnknownType) w
created parent answer.Absent w = broken parent (fault.Model UnknownType) w

abbrev pub inside_of : Answer → List Built
inside_of (answer.Inside bs) = bs
inside_of (answer.Root name) = []
inside_of (answer.Class class) = []
inside_of (answer.Value v) = []
inside_of (answer.Gate g) = []
inside_of (answer.Next next) = []
inside_of (answer.Fault path f) = []
inside_of (answer.Beyond beyond) = []
inside_of (answer.Injection i) = []
inside_of answer.Absent = []

abbrev pub if_compound : ℕ → Option (List ℕ) → List ℕ → List ℕ
if_compound id None ids = id ∷ ids
if_compound id (Some class) ids = ids

-- the compound ones of these modules, the first of which has that id
abbrev pub compounds_from : ℕ → List Built → List ℕ
compounds_from id [] = []
compounds_from id (b ∷ bs) = if_compound id b.class (compounds_from (suc id) bs)

-- what is inside of a module: its submodules are created, and then each compound one of them is set
-- up, in this order
abbrev pub built : (ℕ → World → Flow) → ℕ → Answer → World → Flow
built inner parent found w = created parent found w
    >>= for_each inner (compounds_from (suc (length w.records)) (inside_of found))

-- THE SETUP of a compound module, with so many levels from its own on: it is asked what is inside
-- of it
abbrev pub set_up : ℕ → Answers → ℕ → World → Flow
set_up zero m id w = On w
set_up (suc depth) m id w = asking m (Build id) (built (set_up depth m) id) w

-- modules are nested at most 32 deep: a model answers a fault in the place of what is inside of
-- those below
unfoldable pub most_nested : ℕ
most_nested = 32
