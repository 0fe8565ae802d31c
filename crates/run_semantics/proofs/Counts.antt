-- How many events a run has executed.
pub use Rattle.run_semantics.proofs.Fitting.{event_count, start_count}
use Rattle.std.proofs.Common.{◌≡◌, ℕ, zero, suc, ◌+◌, ◌≤◌, Bool, true, false, refl, sym, ◌∙◌, ap, arith, if◌then◌else◌}
use Rattle.module_api.specs.Behaviour.{Behaviour}
use Rattle.model_questions.specs.Answers.{Answers}
use Rattle.run_semantics.specs.declared.outcome.Outcome.{Outcome}
use Rattle.run_semantics.specs.declared.outcome.Outcome.TheVariants.{Ended, TimeLimit}
use Rattle.run_semantics.specs.World.{World}
use Rattle.run_semantics.specs.Perform.{Flow, On, Stopped, Broken}
use Rattle.run_semantics.specs.Event.{event}
use Rattle.run_semantics.specs.Run.{Stage, Running, Over, world_at, settled, is_after_limit, went, next_stage, after, IsReached}
use Rattle.run_semantics.specs.Upcoming.{Upcoming, Comes, Nothing, upcoming}
use Rattle.run_semantics.proofs.Fitting.{fits_after, fits_looked}
use Rattle.run_semantics.proofs.Flows.{in_flow}
use Rattle.run_semantics.proofs.Growth.{Fits}
use Rattle.run_semantics.proofs.Looking.{beside, HasLooked, looked_count, upcoming_looks}

-- ---- the end of an event

pub settled_count : (fl : Flow) → (world_at (settled fl)).count ≡ (in_flow fl).count
settled_count (On w) = refl
settled_count (Stopped w) = refl
settled_count (Broken w path f) = refl

-- ---- events

either_at_most : (n : ℕ) (c : Bool) (s t : Stage) → (world_at s).count ≤ n → (world_at t).count ≤ n → (world_at (if c then s else t)).count ≤ n
either_at_most n true s t h k = h
either_at_most n false s t h k = k

-- what comes next finds the count as it was
pub upcoming_count : (m : Answers) (w : World) → (beside (upcoming m w)).count ≡ w.count
upcoming_count m w = looked_count w (beside (upcoming m w)) (upcoming_looks m w)

went_count : (b : Behaviour) (m : Answers) (w : World) (up : Upcoming) → HasLooked w (beside up) → Fits w → (beside up).count ≡ w.count → (world_at (went b m w up)).count ≤ w.count + 1
went_count b m w (Nothing u) looked f e = omega arith
went_count b m w (Comes u p rest) looked f e =
    either_at_most (w.count + 1) (is_after_limit m u.records p) (Over w TimeLimit) (settled (event b m p rest u)) (omega arith) (omega (arith, e, settled_count (event b m p rest u), event_count b m p rest u (fits_looked w u looked f)))

pub next_count : (b : Behaviour) (m : Answers) (s : Stage) → Fits (world_at s) → (world_at (next_stage b m s)).count ≤ (world_at s).count + 1
next_count b m (Running w) f = either_at_most (w.count + 1) w.ended _ _ (omega arith) (went_count b m w (upcoming m w) (upcoming_looks m w) f (upcoming_count m w))
next_count b m (Over w outcome) f = omega arith

-- after n turns at most n events were executed
pub count_at_most : (b : Behaviour) (m : Answers) (n : ℕ) → (world_at (after b m n)).count ≤ n
count_at_most b m zero = omega (arith, start_count b m)
count_at_most b m (suc n) = omega (arith, next_count b m (after b m n) (fits_after b m n), count_at_most b m n)

-- ---- runs that go on

-- a run that goes on has so many events
abbrev pub RunsOn : ℕ → Stage → Type 0
RunsOn n s = (u : World) → s ≡ Running u → u.count ≡ n

-- the end of an event leaves the count
settled_runs : (n : ℕ) (fl : Flow) → (in_flow fl).count ≡ n → RunsOn n (settled fl)
settled_runs n (On v) at u e = let same : v ≡ u = cc in ap (λ (x : World). x.count) (sym same) ∙ at
settled_runs n (Stopped v) at u e = let same : v ≡ u = cc in ap (λ (x : World). x.count) (sym same) ∙ at
settled_runs n (Broken v path f) at u e = cc

-- where the run is over it does not go on
either_runs : (c : Bool) (n : ℕ) (w : World) (outcome : Outcome) (s : Stage) → RunsOn n s → RunsOn n (if c then Over w outcome else s)
either_runs true n w outcome s f u e = cc
either_runs false n w outcome s f u e = f u e

-- the next event is counted
went_runs : (b : Behaviour) (m : Answers) (w : World) (up : Upcoming) → HasLooked w (beside up) → Fits w → (beside up).count ≡ w.count → RunsOn (w.count + 1) (went b m w up)
went_runs b m w (Nothing v) looked f same u e = cc
went_runs b m w (Comes v p rest) looked f same u e =
    let more = either_runs (is_after_limit m v.records p) (v.count + 1) w TimeLimit (settled (event b m p rest v)) (settled_runs (v.count + 1) (event b m p rest v) (event_count b m p rest v (fits_looked w v looked f))) u e in
    omega (arith, same, more)

-- one turn of a run
next_runs : (b : Behaviour) (m : Answers) (n : ℕ) (s : Stage) → Fits (world_at s) → RunsOn n s → RunsOn (suc n) (next_stage b m s)
next_runs b m n (Running w) fits f u e =
    let at = f w refl in
    let more = either_runs w.ended (w.count + 1) w Ended (went b m w (upcoming m w)) (went_runs b m w (upcoming m w) (upcoming_looks m w) fits (upcoming_count m w)) u e in
    omega (arith, at, more)
next_runs b m n (Over w outcome) fits f u e = cc

-- after n turns a run that goes on has executed n events
pub runs_on : (b : Behaviour) (m : Answers) (n : ℕ) → RunsOn n (after b m n)
runs_on b m zero u e = ap (λ (s : Stage). (world_at s).count) (sym e) ∙ start_count b m
runs_on b m (suc n) u e = next_runs b m n (after b m n) (fits_after b m n) (runs_on b m n) u e

-- it got as far as event n
pub reached_after : (b : Behaviour) (m : Answers) (n : ℕ) (w : World) → after b m n ≡ Running w → IsReached (after b m n) n
reached_after b m n w e = ap (λ (s : Stage). (world_at s).count) e ∙ runs_on b m n w e
