-- What holds in every world of a run.
use Rattle.std.proofs.Common.{◌≡◌, ℕ, zero, suc, Bool, true, false, List, [], refl, sym, arith, subst, if◌then◌else◌}
use Rattle.module_api.specs.Behaviour.{Behaviour}
use Rattle.model_questions.specs.declared.answer.Question.TheVariants.{Root}
use Rattle.model_questions.specs.declared.answer.Answer.{Answer}
use Rattle.model_questions.specs.declared.answer.Answer.TheVariants as answer
use Rattle.model_questions.specs.Answers.{Answers, answer_of}
use Rattle.event_set.specs.declared.pending.Pending.{Pending}
use Rattle.run_semantics.specs.declared.outcome.Outcome.{Outcome}
use Rattle.run_semantics.specs.declared.outcome.Outcome.TheVariants.{Ended, TimeLimit}
use Rattle.run_semantics.specs.World.{World, asked, empty}
use Rattle.run_semantics.specs.Perform.{Flow, On, Stopped, Broken, ◌>>=◌}
use Rattle.run_semantics.specs.Event.{begun, event}
use Rattle.run_semantics.specs.Run.{with_network, rooted, set_up, most_nested, prepared, start_all, start_modules, unstarted, Stage, Running, Over, world_at, settled, is_after_limit, went, next_stage, after}
use Rattle.run_semantics.specs.Upcoming.{Upcoming, Comes, Nothing, upcoming}
use Rattle.run_semantics.proofs.Alike.{begins}
use Rattle.run_semantics.proofs.Fitting.{begun_grows, fits_after, fits_looked, settled_world}
use Rattle.run_semantics.proofs.Flows.{in_flow}
use Rattle.run_semantics.proofs.Growth.{Fits, asked_grows, fits_empty, network_grows}
use Rattle.run_semantics.proofs.Lasting.{Lasts, HasLevels, Ends, ends_hold, event_holds, set_up_ends, start_ends, unstarted_live, unstarted_new}
use Rattle.run_semantics.proofs.Looking.{beside, HasLooked, upcoming_looks}

-- A PROPERTY LASTS ALL THROUGH A RUN of that model where it lasts through all that happens in it,
-- holds at first, and holds as an event begins.
pub record LastsAlways (b : Behaviour) (m : Answers) (P : World → Type 0) : Type 0 where
  pub lasts : Lasts b m P
  pub at_first : P (asked Root empty)
  pub network : (name : List ℕ) → P (with_network name (asked Root empty))
  pub begins : (w u : World) (p : Pending) (rest : List Pending) → upcoming m w ≡ Comes u p rest → HasLooked w u → Fits w → P w → P (begun p rest u)

first_fits : Fits (asked Root empty)
first_fits = (asked_grows Root empty fits_empty (omega arith)).fits

-- the network has all levels
network_levels : (name : List ℕ) → HasLevels most_nested 1 (with_network name (asked Root empty))
unfolding most_nested
network_levels name = omega arith

-- through event zero
module _ (b : Behaviour) (m : Answers) (P : World → Type 0) (l : Lasts b m P) (at_first : P (asked Root empty)) (network : (name : List ℕ) → P (with_network name (asked Root empty))) where
  root_ends : (found : Answer) → Ends b m P l [] (rooted found (asked Root empty) >>= set_up most_nested m 1)
  root_ends (answer.Root name) = set_up_ends b m P l [] most_nested 1 (with_network name (asked Root empty)) refl (network_levels name) (((network_grows name).fits, network name), tt)
  root_ends (answer.Class class) = (first_fits, at_first)
  root_ends (answer.Inside bs) = (first_fits, at_first)
  root_ends (answer.Value v) = (first_fits, at_first)
  root_ends (answer.Gate g) = (first_fits, at_first)
  root_ends (answer.Next next) = (first_fits, at_first)
  root_ends (answer.Fault path fault) = (first_fits, at_first)
  root_ends (answer.Beyond beyond) = (first_fits, at_first)
  root_ends (answer.Injection next) = (first_fits, at_first)
  root_ends answer.Absent = (first_fits, at_first)

  start_then : (fl : Flow) → Ends b m P l [] fl → P (in_flow (fl >>= start_all b m))
  start_then (On w) h = (ends_hold b m P l [] (start_modules b m (unstarted w) 1 w) (start_ends b m P l (unstarted w) 1 w (unstarted_live w) (unstarted_new w) h.0)).1
  start_then (Stopped w) h = h.1
  start_then (Broken w path f) h = h.1

  pub begins_hold : P (world_at (after b m 0))
  begins_hold = subst P (sym (settled_world (begins b m))) (start_then (prepared m) (root_ends (answer_of m [] Root)))

module _ (b : Behaviour) (m : Answers) (P : World → Type 0) (l : LastsAlways b m P) where
  either_over : (c : Bool) (w : World) (outcome : Outcome) (s : Stage) → P w → (c ≡ false → P (world_at s)) → P (world_at (if c then Over w outcome else s))
  either_over true w outcome s h k = h
  either_over false w outcome s h k = k refl

  went_always : (w : World) (up : Upcoming) → upcoming m w ≡ up → HasLooked w (beside up) → Fits w → P w → P (world_at (went b m w up))
  went_always w (Nothing u) e looked f h = h
  went_always w (Comes u p rest) e looked f h =
      either_over (is_after_limit m u.records p) w TimeLimit (settled (event b m p rest u)) h
      (λ c. subst P (sym (settled_world (event b m p rest u))) (event_holds b m P l.lasts p rest u ((begun_grows p rest u (fits_looked w u looked f)).fits, l.begins w u p rest e looked f h)).1)

  next_always : (s : Stage) → Fits (world_at s) → P (world_at s) → P (world_at (next_stage b m s))
  next_always (Running w) f h = either_over w.ended w Ended (went b m w (upcoming m w)) h (λ c. went_always w (upcoming m w) refl (upcoming_looks m w) f h)
  next_always (Over w outcome) f h = h

  pub always : (n : ℕ) → P (world_at (after b m n))
  always zero = begins_hold b m P l.lasts l.at_first l.network
  always (suc n) = next_always (after b m n) (fits_after b m n) (always n)
