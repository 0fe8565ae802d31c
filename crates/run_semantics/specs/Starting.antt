-- Modules that are started.
use Rattle.std.specs.Prelude.{ℕ, suc, zero, nat_le, nat_lt, max, not, ◌&&◌, List, [], ◌∷◌, ◌++◌, Option}
use Rattle.std.specs.Prelude.{Some, None, map, if◌then◌else◌}
use Rattle.std.specs.List.{filter}
use Rattle.module_api.specs.declared.call.CallReason.TheVariants as prompt
use Rattle.module_api.specs.Behaviour.{Behaviour}
use Rattle.model_questions.specs.Answers.{Answers}
use Rattle.model_questions.specs.declared.record.Record.{Record}
use Rattle.run_semantics.specs.declared.outcome.RunFault.TheVariants as fault
use Rattle.run_semantics.specs.declared.traces.Instance.{Instance}
use Rattle.run_semantics.specs.Calls.{instance_in}
use Rattle.run_semantics.specs.Perform.{Flow, On, ◌>>=◌, broken, call_module, for_each}
use Rattle.run_semantics.specs.Subtree.{among, outer_first}
use Rattle.run_semantics.specs.World.{World, live_of}

-- a simple module: its id and its kind
pub record Part : Type 0 where
  pub id : ℕ
  pub kind : List ℕ

abbrev pub with_class : ℕ → Option (List ℕ) → List Part → List Part
with_class id (Some kind) parts = record { id = id; kind = kind } ∷ parts
with_class id None parts = parts

abbrev pub parts_from : ℕ → List Record → List Part
parts_from id [] = []
parts_from id (r ∷ rs) = with_class id r.class (parts_from (suc id) rs)

-- the simple modules that were created, by rising id
abbrev pub parts_of : World → List Part
parts_of w = parts_from 1 w.records

-- THE MODULES THAT NEED A BOX as these are started, by rising id: the simple ones among them
abbrev pub needs_of : List ℕ → World → List Part
needs_of ids w = filter (λ (p : Part). among p.id ids) (parts_of w)

-- a module in its state at first
abbrev pub fresh : Behaviour → Part → Instance
fresh b p = record { id = p.id; kind = p.kind; state = (b.naming p.kind).initial }

-- a module stands besides, in its place by its id
abbrev pub with_instance : Instance → List Instance → List Instance
with_instance i [] = i ∷ []
with_instance i (j ∷ js) = if nat_lt i.id j.id then i ∷ j ∷ js else j ∷ with_instance i js

abbrev pub with_instances : List Instance → List Instance → List Instance
with_instances [] js = js
with_instances (i ∷ is) js = with_instance i (with_instances is js)

-- these modules stand besides, each in its state at first
abbrev pub placed : Behaviour → List Part → World → World
placed b ps w = record w { modules = with_instances (map (fresh b) ps) w.modules }

-- the first of these modules whose class the catalogue doesn't know
abbrev pub first_unknown : Behaviour → List Part → Option Part
first_unknown b [] = None
first_unknown b (p ∷ ps) = if b.known p.kind then first_unknown b ps else Some p

-- where there is such a one it is the fault, and none of these modules has a state
abbrev pub unless_unknown : Behaviour → List Part → World → Option Part → Flow
unless_unknown b ps w None = On (placed b ps w)
unless_unknown b ps w (Some p) = broken p.id fault.UnknownClass w

-- what stands of them: their ids and kinds
abbrev pub part_of : Instance → Part
part_of i = record { id = i.id; kind = i.kind }

abbrev pub standing : List Instance → List Part
standing is = map part_of is

-- how many stages a module has, where it stands
abbrev pub stages_in : Behaviour → Option Instance → ℕ
stages_in b None = 0
stages_in b (Some i) = (b.naming i.kind).stages

-- the greatest number of stages of these
abbrev pub most_stages : Behaviour → List Instance → List ℕ → ℕ
most_stages b is [] = 0
most_stages b is (id ∷ ids) = max (stages_in b (instance_in id is)) (most_stages b is ids)

-- a module is called for the stages below its own number; one that has no box, as a compound
-- module, or is dead has none
abbrev pub initialize : Behaviour → Answers → ℕ → ℕ → World → Flow
initialize b m stage id w = if nat_lt stage (stages_in b (instance_in id w.modules))
    then call_module b m id (prompt.Initialize stage) w else On w

-- one stage of these modules, in this order
abbrev pub one_stage : Behaviour → Answers → ℕ → List ℕ → World → Flow
one_stage b m stage ids w = for_each (initialize b m stage) ids w

-- as many stages, from this one on
abbrev pub stages_from : Behaviour → Answers → List ℕ → ℕ → ℕ → World → Flow
stages_from b m ids stage zero w = On w
stages_from b m ids stage (suc left) w =
    one_stage b m stage ids w >>= stages_from b m ids (suc stage) left

-- these modules count as started
abbrev pub with_started : List ℕ → World → World
with_started ids w = record w { started = w.started ++ ids }

-- A START of some modules: they count as started, and are called in that order, stage 0 of all,
-- stage 1, and so on (OMNeT++ Simulation Manual, "Multi-Stage Initialization")
abbrev pub started : Behaviour → Answers → List ℕ → List ℕ → World → Flow
started b m ids calls w =
    stages_from b m calls 0 (most_stages b w.modules calls) (with_started ids w)

-- those of some modules that need boxes have them, each in its state at first: before its start no
-- module has a state
abbrev pub place_parts : Behaviour → List ℕ → World → Flow
place_parts b ids w = unless_unknown b (needs_of ids w) w (first_unknown b (needs_of ids w))

-- A START EVENT: these modules have their boxes, and are started, from the first of them inwards
abbrev pub start_modules : Behaviour → Answers → List ℕ → ℕ → World → Flow
start_modules b m ids first w =
    place_parts b ids w >>= started b m ids (outer_first w.records ids first)

-- the modules that live and were not started
abbrev pub unstarted : World → List ℕ
unstarted w = filter (λ id. not (among id w.started)) (live_of w)

-- those that were created together, with ids from the first to the last: one that was created in
-- one of them since has a start of its own
abbrev pub starting : ℕ → ℕ → World → List ℕ
starting first last w = filter (λ id. nat_le first id && nat_le id last) (unstarted w)
