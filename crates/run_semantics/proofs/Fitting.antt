-- In each world of a run ids are those of modules that were created, and what stands lives; and each
-- event is counted.
use Rattle.std.proofs.Common.{◌≡◌, ℕ, zero, suc, ◌+◌, Bool, true, false, List, refl, sym, ap, ◌∙◌, arith, subst, length, if◌then◌else◌}
use Rattle.module_api.specs.Behaviour.{Behaviour}
use Rattle.model_questions.specs.declared.answer.Question.TheVariants.{BeyondLimit}
use Rattle.model_questions.specs.Answers.{Answers}
use Rattle.event_set.specs.declared.pending.Pending.{Pending}
use Rattle.run_semantics.specs.declared.outcome.Outcome.{Outcome}
use Rattle.run_semantics.specs.declared.outcome.Outcome.TheVariants.{Ended, TimeLimit}
use Rattle.run_semantics.specs.World.{World}
use Rattle.run_semantics.specs.Perform.{Flow, On, Stopped, Broken}
use Rattle.run_semantics.specs.Event.{counted, begun, event}
use Rattle.run_semantics.specs.Run.{Stage, Running, Over, world_at, settled, start, is_after_limit, went, next_stage, after}
use Rattle.run_semantics.specs.Upcoming.{Upcoming, Comes, Nothing, upcoming}
use Rattle.run_semantics.proofs.Looking.{beside, HasLooked, upcoming_looks}
use Rattle.run_semantics.proofs.Flows.{in_flow}
use Rattle.run_semantics.proofs.Alike.{begins, begins_grows}
use Rattle.run_semantics.proofs.Growth.{AllAbout-append, AllAbout-more, Fits, IsGrown, timed_grows}
use Rattle.run_semantics.proofs.Grows.{happens_grows}

-- the end of an event changes nothing of the world
pub settled_world : (fl : Flow) → world_at (settled fl) ≡ in_flow fl
settled_world (On w) = refl
settled_world (Stopped w) = refl
settled_world (Broken w path f) = refl

-- the same modules are there
pub looked_records : (w u : World) → HasLooked w u → u.records ≡ w.records
looked_records w u h = sym (ap (λ (v : World). v.records) h.same)

-- questions about no module fit in any world
pub fits_looked : (w u : World) → HasLooked w u → Fits w → Fits u
fits_looked w u h f =
    subst Fits h.same (record {
      nested = f.nested;
      dead = f.dead;
      modules = f.modules;
      questions = AllAbout-append (length w.records) w.questions h.rest f.questions (AllAbout-more 0 (length w.records) h.rest (omega arith) h.of_none);
    })

-- an event that begins asks its first question
pub begun_grows : (p : Pending) (rest : List Pending) (w : World) → Fits w → IsGrown (counted p rest w) (begun p rest w)
begun_grows p rest w f = timed_grows (BeyondLimit p.time) (counted p rest w) (record { nested = f.nested; dead = f.dead; modules = f.modules; questions = f.questions }) (omega arith)

-- ---- one event

pub event_fits : (b : Behaviour) (m : Answers) (p : Pending) (rest : List Pending) (w : World) → Fits w → Fits (in_flow (event b m p rest w))
event_fits b m p rest w f = (happens_grows b m p p.what (begun p rest w) (begun_grows p rest w f).fits).fits

-- it is counted
pub event_count : (b : Behaviour) (m : Answers) (p : Pending) (rest : List Pending) (w : World) → Fits w → (in_flow (event b m p rest w)).count ≡ w.count + 1
event_count b m p rest w f = (happens_grows b m p p.what (begun p rest w) (begun_grows p rest w f).fits).count

-- ---- every world

either_fits : (c : Bool) (w : World) (outcome : Outcome) (s : Stage) → Fits w → Fits (world_at s) → Fits (world_at (if c then Over w outcome else s))
either_fits true w outcome s f g = f
either_fits false w outcome s f g = g

went_fits : (b : Behaviour) (m : Answers) (w : World) (up : Upcoming) → HasLooked w (beside up) → Fits w → Fits (world_at (went b m w up))
went_fits b m w (Nothing u) looked f = f
went_fits b m w (Comes u p rest) looked f =
    either_fits (is_after_limit m u.records p) w TimeLimit (settled (event b m p rest u)) f (subst Fits (sym (settled_world (event b m p rest u))) (event_fits b m p rest u (fits_looked w u looked f)))

next_fits : (b : Behaviour) (m : Answers) (s : Stage) → Fits (world_at s) → Fits (world_at (next_stage b m s))
next_fits b m (Running w) f = either_fits w.ended w Ended (went b m w (upcoming m w)) f (went_fits b m w (upcoming m w) (upcoming_looks m w) f)
next_fits b m (Over w outcome) f = f

-- in each world of a run ids are those of records
pub fits_after : (b : Behaviour) (m : Answers) (n : ℕ) → Fits (world_at (after b m n))
fits_after b m zero = subst Fits (sym (settled_world (begins b m))) (begins_grows b m).fits
fits_after b m (suc n) = next_fits b m (after b m n) (fits_after b m n)

-- event zero is the first
pub start_count : (b : Behaviour) (m : Answers) → (world_at (start b m)).count ≡ 0
start_count b m = ap (λ (w : World). w.count) (settled_world (begins b m)) ∙ (begins_grows b m).count
