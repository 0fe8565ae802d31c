-- An event that has begun, in code and in the definitions.
use Rattle.std.proofs.Common.{◌≡◌, ℕ, Bool, true, false, List, [], ◌∷◌, Option, Some, None, Err, refl, sym, subst, ap, ◌∙◌, if◌then◌else◌}
use Rattle.module_api.specs.Behaviour.{Behaviour}
use Rattle.module_api.specs.declared.call.CallReason.TheVariants as prompt
use Rattle.model_questions.specs.Answers.{Answers, is_beyond}
use Rattle.event_set.specs.declared.pending.Happening.{Happening}
use Rattle.event_set.specs.declared.pending.Happening.TheVariants.{Arrival, Delivery, Start, Timer}
use Rattle.event_set.specs.declared.pending.Pending.{Pending}
use Rattle.run_semantics.specs.declared.outcome.Outcome.{Outcome}
use Rattle.run_semantics.specs.declared.outcome.Outcome.TheVariants.{Ended, EventLimit, Fault, NoMoreEvents, TimeLimit}
use Rattle.run_semantics.specs.declared.outcome.RunFault.TheVariants.{UnknownClass}
use Rattle.run_semantics.specs.declared.traces.Instance.{Instance}
use Rattle.run_semantics.specs.Event.{begun, call_module, happens, message_of}
use Rattle.run_semantics.specs.Perform.{Flow, ◌>>=◌, broken}
use Rattle.run_semantics.specs.Run.{Part, first_unknown, is_after_limit, needs_of, start_modules, started, starting, unless_unknown, wanted, wanted_by, wanted_for}
use Rattle.run_semantics.specs.Subtree.{outer_first}
use Rattle.run_semantics.specs.Upcoming.{Comes, Nothing, upcoming}
use Rattle.run_semantics.specs.World.{World}
use Rattle.run_semantics.proofs.Looking.{beside}
use Rattle.kernel_actions.specs.declared.looks.Look.{Look}
use Rattle.kernel_actions.specs.declared.looks.Next.{Next}
use Rattle.kernel_actions.specs.Upcoming.{looked, upcoming_of, Begins, BeginsWith}
use Rattle.kernel_boxes.specs.Seats.{BoxAt}
use Rattle.kernel.specs.Seats.{AreFresh}
use Rattle.kernel.specs.Starts.{HasItsModules, IsUnknownFirst}
use Rattle.kernel.proofs.Apart.{with_modules}
use Rattle.kernel.proofs.Upcoming.{next_beside, next_with, upcoming_with}

-- ---- what happens

abbrev IsNoStart : Happening → Type 0
IsNoStart what = (last : ℕ) → what ≡ Start last → ⊥

-- where none is started a module is called
pub happens_called : (b : Behaviour) (m : Answers) (p : Pending) (what : Happening) (w : World) → IsNoStart what → happens b m p what w ≡ call_module b m p.id (prompt.Message (message_of p)) w
happens_called b m p (Start last) w other = absurd (other last refl)
happens_called b m p (Timer timer kind) w other = refl
happens_called b m p (Arrival kind bits payload) w other = refl
happens_called b m p (Delivery d) w other = refl

-- and no box is needed
needs_none : (p : Pending) (what : Happening) (w : World) → IsNoStart what → wanted_for p what w ≡ []
needs_none p (Start last) w other = absurd (other last refl)
needs_none p (Timer timer kind) w other = refl
needs_none p (Arrival kind bits payload) w other = refl
needs_none p (Delivery d) w other = refl

none_fresh : (b : Behaviour) (ps : List Part) (ss : List BoxAt) → ps ≡ [] → AreFresh b ps ss → ss ≡ []
none_fresh b [] [] e h = refl
none_fresh b [] (s ∷ ss) e h = absurd h
none_fresh b (p ∷ ps) ss e h = cc

-- so none waits
pub called_none : (b : Behaviour) (p : Pending) (what : Happening) (w : World) (ss : List BoxAt) → IsNoStart what → AreFresh b (wanted_for p what w) ss → ss ≡ []
called_none b p what w ss other h = none_fresh b (wanted_for p what w) ss (needs_none p what w other) h

-- the same of a start
pub start_fresh : (b : Behaviour) (p : Pending) (what : Happening) (last : ℕ) (w : World) (ss : List BoxAt) → what ≡ Start last → AreFresh b (wanted_for p what w) ss → AreFresh b (needs_of (starting p.id last w) w) ss
start_fresh b p what last w ss e h = subst (λ (x : Happening). AreFresh b (wanted_for p x w) ss) e h

pub happens_started : (b : Behaviour) (m : Answers) (p : Pending) (what : Happening) (last : ℕ) (w : World) (fl : Flow) → what ≡ Start last → fl ≡ start_modules b m (starting p.id last w) p.id w → fl ≡ happens b m p what w
happens_started b m p what last w fl e is = is ∙ ap (λ (x : Happening). happens b m p x w) (sym e)

-- ---- what is wanted before it

-- it is the same once the event has begun
begun_wants : (p q : Pending) (what : Happening) (rest : List Pending) (w : World) → wanted_for p what w ≡ wanted_for p what (begun q rest w)
begun_wants p q (Start last) rest w = refl
begun_wants p q (Timer timer kind) rest w = refl
begun_wants p q (Arrival kind bits payload) rest w = refl
begun_wants p q (Delivery d) rest w = refl

unless : (c : Bool) (ps qs : List Part) → c ≡ false → (if c then ps else qs) ≡ qs
unless c ps qs e = ap (λ (x : Bool). if x then ps else qs) e

where_met : (c : Bool) (ps qs : List Part) → c ≡ true → (if c then ps else qs) ≡ ps
where_met c ps qs e = ap (λ (x : Bool). if x then ps else qs) e

either_none : (c : Bool) (ps : List Part) → ps ≡ [] → (if c then [] else ps) ≡ []
either_none true ps e = refl
either_none false ps e = e

pub wanted_begins : (m : Answers) (limit : Option ℕ) (w after : World) (p : Pending) → limit ≡ m.time_limit → w.ended ≡ false → BeginsWith limit (upcoming m w) p after → wanted m w ≡ wanted_for p p.what after
wanted_begins m limit w after p of_model going h =
    let late : is_after_limit m h.world.records p ≡ false = ap (λ (l : Option ℕ). is_beyond l p.time) (sym of_model) ∙ h.in_time in
    unless w.ended [] (wanted_by m (upcoming m w)) going
    ∙ (ap (wanted_by m) h.comes
    ∙ (unless (is_after_limit m h.world.records p) [] (wanted_for p p.what h.world) late
    ∙ (begun_wants p p p.what h.rest h.world
    ∙ ap (wanted_for p p.what) (sym h.begins))))

pub fresh_begins : (b : Behaviour) (m : Answers) (limit : Option ℕ) (w after : World) (p : Pending) (ss : List BoxAt) → limit ≡ m.time_limit → w.ended ≡ false → BeginsWith limit (upcoming m w) p after → AreFresh b (wanted m w) ss → AreFresh b (wanted_for p p.what after) ss
fresh_begins b m limit w after p ss of_model going h fresh = subst (λ (ps : List Part). AreFresh b ps ss) (wanted_begins m limit w after p of_model going h) fresh

-- the modules are the same too
pub modules_begin : (m : Answers) (limit : Option ℕ) (n : Next) (w after : World) (look : Look) (p : Pending) → upcoming m w ≡ upcoming_of n (looked w look) → BeginsWith limit (upcoming m w) p after → HasItsModules w → HasItsModules after
modules_begin m limit n w after look p is h has =
    let same : h.world ≡ looked w look = sym (ap beside h.comes) ∙ (ap beside is ∙ next_beside n (looked w look)) in
    subst HasItsModules (sym (h.begins ∙ ap (begun p h.rest) same)) (record { few = has.few; stands = has.stands })

-- where no event begins none is wanted
pub wants_none : (m : Answers) (limit : Option ℕ) (ms : List Instance) (n : Next) (core after : World) (look : Look) (outcome : Outcome) → upcoming m (with_modules ms core) ≡ upcoming_of n (looked (with_modules ms core) look) → limit ≡ m.time_limit
    → Begins limit (upcoming_of n (looked core look)) core (Err outcome) after → wanted m (with_modules ms core) ≡ []
wants_none m limit ms n core after look NoMoreEvents is of_model h =
    let none : upcoming m (with_modules ms core) ≡ Nothing (with_modules ms h.world) = is ∙ (next_with ms n (looked core look) ∙ ap (upcoming_with ms) h.none) in
    either_none core.ended (wanted_by m (upcoming m (with_modules ms core))) (ap (wanted_by m) none)
wants_none m limit ms n core after look TimeLimit is of_model h =
    let comes : upcoming m (with_modules ms core) ≡ Comes (with_modules ms h.world) h.event h.rest = is ∙ (next_with ms n (looked core look) ∙ ap (upcoming_with ms) h.comes) in
    let late : is_after_limit m h.world.records h.event ≡ true = ap (λ (l : Option ℕ). is_beyond l h.event.time) (sym of_model) ∙ h.late in
    either_none core.ended (wanted_by m (upcoming m (with_modules ms core)))
    (ap (wanted_by m) comes ∙ where_met (is_after_limit m h.world.records h.event) [] (wanted_for h.event h.event.what (with_modules ms h.world)) late)
wants_none m limit ms n core after look Ended is of_model h = absurd h
wants_none m limit ms n core after look EventLimit is of_model h = absurd h
wants_none m limit ms n core after look (Fault event path f) is of_model h = absurd h

pub none_waits : (b : Behaviour) (m : Answers) (limit : Option ℕ) (ms : List Instance) (n : Next) (core after : World) (look : Look) (outcome : Outcome) (ss : List BoxAt) → upcoming m (with_modules ms core) ≡ upcoming_of n (looked (with_modules ms core) look) → limit ≡ m.time_limit
    → Begins limit (upcoming_of n (looked core look)) core (Err outcome) after → AreFresh b (wanted m (with_modules ms core)) ss → ss ≡ []
none_waits b m limit ms n core after look outcome ss is of_model h fresh = none_fresh b (wanted m (with_modules ms core)) ss (wants_none m limit ms n core after look outcome is of_model h) fresh

pub ended_waits : (b : Behaviour) (m : Answers) (w : World) (ss : List BoxAt) → w.ended ≡ true → AreFresh b (wanted m w) ss → ss ≡ []
ended_waits b m w ss e fresh = none_fresh b (wanted m w) ss (where_met w.ended [] (wanted_by m (upcoming m w)) e) fresh

-- ---- a start for one of whose modules there is no box

unknown_start : (b : Behaviour) (m : Answers) (p : Pending) (what : Happening) (w : World) (part : Part) → first_unknown b (wanted_for p what w) ≡ Some part → happens b m p what w ≡ broken part.id UnknownClass w
unknown_start b m p (Start last) w part e =
    let ids : List ℕ = starting p.id last w in
    ap (λ (o : Option Part). unless_unknown b (needs_of ids w) w o >>= started b m ids (outer_first w.records ids p.id)) e
unknown_start b m p (Timer timer kind) w part e = cc
unknown_start b m p (Arrival kind bits payload) w part e = cc
unknown_start b m p (Delivery d) w part e = cc

-- IT HAS THE FAULT of the first one whose class isn't known
pub declined_start : (b : Behaviour) (m : Answers) (limit : Option ℕ) (w after : World) (p : Pending) (id : ℕ) → limit ≡ m.time_limit → w.ended ≡ false → BeginsWith limit (upcoming m w) p after → IsUnknownFirst b (wanted m w) id → happens b m p p.what after ≡ broken id UnknownClass after
declined_start b m limit w after p id of_model going h unknown =
    unknown_start b m p p.what after unknown.part (ap (first_unknown b) (sym (wanted_begins m limit w after p of_model going h)) ∙ unknown.first)
    ∙ ap (λ n. broken n UnknownClass after) unknown.same

-- such a run isn't over, and its event comes
ended_or : (c : Bool) (b : Behaviour) (ps : List Part) (part : Part) → first_unknown b (if c then [] else ps) ≡ Some part → c ≡ false
ended_or true b ps part e = cc
ended_or false b ps part e = refl

pub declined_goes : (b : Behaviour) (m : Answers) (w : World) (id : ℕ) → IsUnknownFirst b (wanted m w) id → w.ended ≡ false
declined_goes b m w id unknown = ended_or w.ended b (wanted_by m (upcoming m w)) unknown.part unknown.first

pub declined_begins : (b : Behaviour) (ps : List Part) (id : ℕ) → ps ≡ [] → IsUnknownFirst b ps id → ⊥
declined_begins b [] id e unknown = let none : None ≡ Some unknown.part = unknown.first in cc
declined_begins b (p ∷ ps) id e unknown = cc
