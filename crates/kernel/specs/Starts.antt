-- Modules that are started while a run goes on, and the boxes that they need.
use Rattle.std.specs.Prelude.{◌≡◌, ◌≤◌, ◌+◌, ◌^◌, ℕ, nat_lt, List, [], ◌∷◌, Option, Some, None}
use Rattle.std.specs.Prelude.{option_map, length, take, if◌then◌else◌}
use Rattle.module_api.specs.Behaviour.{Behaviour}
use Rattle.model_questions.specs.Answers.{Answers}
use Rattle.model_questions.specs.declared.record.Record.{Record}
use Rattle.model_questions.specs.Records.{record_at}
use Rattle.event_set.specs.Events.{last_started}
use Rattle.run_semantics.specs.Laws.{parts_standing}
use Rattle.run_semantics.specs.Run.{Part, first_unknown, is_after_limit, standing}
use Rattle.run_semantics.specs.Subtree.{outer_first}
use Rattle.run_semantics.specs.Upcoming.{Upcoming, Comes, Nothing, upcoming}
use Rattle.run_semantics.specs.World.{World, live_of}
use Rattle.kernel_boxes.specs.Seats.{BoxAt}
use Rattle.kernel_boxes.specs.Staying.{first_without}
use Rattle.kernel_actions.specs.Upcoming.{starts_by}
use Rattle.kernel.specs.Seats.{AreFresh, request_for}
use Rattle.kernel.specs.declared.request.Request.{Request}

-- ---- what a start rests on

-- Exactly the simple modules stand that were started and live, and not too many live: so it is at
-- each moment of a run.
pub record HasItsModules (w : World) : Type 0 where
  pub few : length (live_of w) ≤ 65536
  pub stands : standing w.modules ≡ parts_standing w

-- a module and those below it are called, of at most 65,536, on at most 33 levels
abbrev pub HasFewCalls : World → List ℕ → ℕ → Type 0
HasFewCalls w ids first = length (outer_first w.records ids first) ≤ 2162688

-- no event is counted, and fewer are inserted than one event may
pub record KeepsRoom (old new : World) : Type 0 where
  pub count : new.count ≡ old.count
  pub next : new.next ≤ old.next + 2 ^ 40

-- ---- which modules the next event starts

abbrev pub starts_in : Answers → Upcoming → List ℕ
starts_in m (Nothing w) = []
starts_in m (Comes w p rest) = if is_after_limit m w.records p then []
    else starts_by p.id (last_started p.what) w

-- THE MODULES THAT THE NEXT EVENT STARTS, by rising id
abbrev pub starts_next : Answers → World → List ℕ
starts_next m w = if w.ended then [] else starts_in m (upcoming m w)

-- ---- the box that is wanted

abbrev pub class_in : Option Record → Option (List ℕ)
class_in None = None
class_in (Some r) = r.class

abbrev pub part_or : ℕ → Option (List ℕ) → Option Part → Option Part
part_or id (Some kind) later = Some (record { id = id; kind = kind })
part_or id None later = later

-- of these modules the first one that is simple and has a greater id than that
abbrev pub next_in : List Record → ℕ → List ℕ → Option Part
next_in records last [] = None
next_in records last (id ∷ ids) = if nat_lt last id
    then part_or id (class_in (record_at records id)) (next_in records last ids)
    else next_in records last ids

-- THE BOX THAT IS WANTED where these modules need one, and those have one: for the first of them
-- that has none
abbrev pub wanted_of : World → List Part → List Part → Option Request
wanted_of w needed boxes = option_map (request_for w) (first_without boxes needed)

-- these boxes are those of the first of these modules: they get them by rising ids
abbrev pub AreFirstOf : Behaviour → List Part → List BoxAt → Type 0
AreFirstOf b ps ss = AreFresh b (take (length ss) ps) ss

-- that one is the first of these modules whose class the catalogue doesn't know
pub record IsUnknownFirst (b : Behaviour) (ps : List Part) (id : ℕ) : Type 0 where
  pub part : Part
  pub first : first_unknown b ps ≡ Some part
  pub same : part.id ≡ id
