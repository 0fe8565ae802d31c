-- The world that a core and its boxes make.
use Rattle.std.specs.Prelude.{◌≡◌, ℕ, Bool, false, bytes_eq, List, [], ◌∷◌, Option, Some, None}
use Rattle.std.specs.Prelude.{option_map, nat_lt, Result, map, length, take, if◌then◌else◌}
use Rattle.sim_values.specs.declared.NoMemory.{NoMemory}
use Rattle.module_api.specs.declared.call.Call.{Call}
use Rattle.module_api.specs.declared.reply.Reply.{Reply}
use Rattle.module_api.specs.Behaviour.{Behaviour}
use Rattle.module_api.specs.Meaning.{Module, Answered, IsFresh, IsSameModule}
use Rattle.model_questions.specs.declared.record.Record.{Record}
use Rattle.model_questions.specs.Records.{path_of}
use Rattle.run_semantics.specs.World.{World}
use Rattle.run_semantics.specs.declared.traces.Instance.{Instance}
use Rattle.run_semantics.specs.Run.{Part, needs_of, parts_of, standing, unstarted}
use Rattle.kernel_boxes.specs.Seats.{BoxAt, instance_of, module_in, with_module}
use Rattle.kernel_boxes.specs.Staying.{first_without, staying}
use Rattle.kernel.specs.declared.request.Request.{Request}

-- the world of a core and of what its boxes are
abbrev pub world_of : World → List BoxAt → World
world_of core seats = record core { modules = map instance_of seats }

-- The box of that id answered the call, and no other changed.
pub record IsCalled (id : ℕ) (old new : List BoxAt) (call : Call)
    (result : Result Reply NoMemory) : Type 0 where
  pub before : Module
  pub after : Module
  pub found : module_in id old ≡ Some before
  pub answered : Answered before call result after
  pub same : IsSameModule before after
  pub seats : new ≡ with_module id after old

-- A CALL of the module of that id: its box answers, where it has one, and else nothing happens
abbrev pub IsServed : ℕ → List BoxAt → List BoxAt → Call → Option (Result Reply NoMemory) → Type 0
IsServed id old new call None = (module_in id old ≡ None) × (new ≡ old)
IsServed id old new call (Some result) = IsCalled id old new call result

-- whether the module of that id has a box, and stands at a path
abbrev pub stands_at : List Record → List ℕ → ℕ → Option Module → Bool
stands_at records path id None = false
stands_at records path id (Some box) = bytes_eq (path_of records id) path

-- how many stages a box has, where there is one
abbrev pub stages_of : Option Module → Option ℕ
stages_of None = None
stages_of (Some box) = Some box.naming.stages

-- what is asked for: a box for this simple module
abbrev pub request_for : World → Part → Request
request_for w p = record { kind = p.kind; path = path_of w.records p.id; id = p.id }

-- THE MODULES THAT NEED A BOX for the start of the network, by rising id: the simple ones that live
-- and were not started
abbrev pub needs : World → List Part
needs w = needs_of (unstarted w) w

-- THE BOX THAT IS WANTED where there are these: for the first of the modules that need one and have
-- none
abbrev pub missing_part : World → List Part → Option Part
missing_part w boxes = first_without boxes (needs w)

abbrev pub missing_of : World → List Part → Option Request
missing_of w boxes = option_map (request_for w) (missing_part w boxes)

-- THE BOX THAT IS WANTED where a run goes back to a position of these modules: that of the first
-- one of which none stays
abbrev pub lacking_of : World → List Instance → List BoxAt → Option Request
lacking_of w saved seats = option_map (request_for w)
    (first_without (standing (map instance_of (staying saved seats))) (standing saved))

-- a box among others, in its place by its id
abbrev pub with_seat : BoxAt → List BoxAt → List BoxAt
with_seat s [] = s ∷ []
with_seat s (t ∷ ts) = if nat_lt s.id t.id then s ∷ t ∷ ts else t ∷ with_seat s ts

-- ---- boxes that wait for the start of their modules

-- These boxes are of these modules, each of its kind and in its state at first.
abbrev pub AreFresh : Behaviour → List Part → List BoxAt → Type 0
AreFresh b [] [] = Unit {0}
AreFresh b [] (s ∷ ss) = ⊥
AreFresh b (p ∷ ps) [] = ⊥
AreFresh b (p ∷ ps) (s ∷ ss) = (s.id ≡ p.id) × IsFresh b p.kind s.box × AreFresh b ps ss

-- those of the first of the modules that need one: they get them by rising ids
abbrev pub AreFirst : Behaviour → World → List BoxAt → Type 0
AreFirst b w ss = AreFresh b (take (length ss) (needs w)) ss

-- no module was started, and none is dead: all simple modules need boxes
abbrev pub IsUnstarted : World → Type 0
IsUnstarted w = needs w ≡ parts_of w
