-- Which events a run got as far as.
use Rattle.std.proofs.Common.{◌≡◌, ◌⊎◌, inl, inr, ⊎_elim, ℕ, zero, suc, ◌+◌, ◌≤◌, ◌<◌, Bool, true, false, refl, sym, ap, ◌∙◌, arith, subst, eq-or-lt_of_le, if◌then◌else◌}
use Rattle.module_api.specs.Behaviour.{Behaviour}
use Rattle.model_questions.specs.Answers.{Answers}
use Rattle.run_semantics.specs.declared.outcome.Outcome.{Outcome}
use Rattle.run_semantics.specs.declared.outcome.Outcome.TheVariants.{Ended, TimeLimit}
use Rattle.run_semantics.specs.World.{World}
use Rattle.run_semantics.specs.Upcoming.{Upcoming, Comes, Nothing, upcoming}
use Rattle.run_semantics.specs.Run.{Stage, Running, Over, world_at, settled, is_after_limit, went, next_stage, after, IsReached}
use Rattle.run_semantics.specs.Event.{event}
use Rattle.run_semantics.proofs.Fitting.{fits_after, fits_looked}
use Rattle.run_semantics.proofs.Growth.{Fits}
use Rattle.run_semantics.proofs.Looking.{beside, HasLooked, upcoming_looks}
use Rattle.run_semantics.proofs.Counts.{RunsOn, settled_count, start_count, event_count, upcoming_count, next_count, count_at_most, runs_on}

-- the world is this one still, or so many events are counted
abbrev IsOrCounts : World → ℕ → Stage → Type 0
IsOrCounts w n s = (world_at s ≡ w) ⊎ ((world_at s).count ≡ n)

either_is : (c : Bool) (w : World) (n : ℕ) (outcome : Outcome) (s : Stage) → IsOrCounts w n s → IsOrCounts w n (if c then Over w outcome else s)
either_is true w n outcome s h = inl refl
either_is false w n outcome s h = h

went_is : (b : Behaviour) (m : Answers) (w : World) (up : Upcoming) → HasLooked w (beside up) → Fits w → (beside up).count ≡ w.count → IsOrCounts w (w.count + 1) (went b m w up)
went_is b m w (Nothing u) looked f e = inl refl
went_is b m w (Comes u p rest) looked f e =
    either_is (is_after_limit m u.records p) w (w.count + 1) TimeLimit (settled (event b m p rest u)) (inr (omega (arith, e, settled_count (event b m p rest u), event_count b m p rest u (fits_looked w u looked f))))

next_is : (b : Behaviour) (m : Answers) (n : ℕ) (s : Stage) → Fits (world_at s) → RunsOn n s → IsOrCounts (world_at s) (suc n) (next_stage b m s)
next_is b m n (Running w) fits f =
    let at : w.count ≡ n = f w refl in
    let one : w.count + 1 ≡ suc n = omega (arith, at) in
    subst (λ k. IsOrCounts w k (next_stage b m (Running w))) one (either_is w.ended w (w.count + 1) Ended (went b m w (upcoming m w)) (went_is b m w (upcoming m w) (upcoming_looks m w) fits (upcoming_count m w)))
next_is b m n (Over w outcome) fits f = inl refl

-- a run stands where it stood after the last event that it executed
pub stands : (b : Behaviour) (m : Answers) (n : ℕ) → world_at (after b m (world_at (after b m n)).count) ≡ world_at (after b m n)
stands b m zero = ap (λ k. world_at (after b m k)) (start_count b m)
stands b m (suc n) =
    ⊎_elim
    (λ (e : world_at (after b m (suc n)) ≡ world_at (after b m n)). ap (λ (w : World). world_at (after b m w.count)) e ∙ (stands b m n ∙ sym e))
    (λ (e : (world_at (after b m (suc n))).count ≡ suc n). ap (λ k. world_at (after b m k)) e)
    (next_is b m n (after b m n) (fits_after b m n) (runs_on b m n))

-- a run that got as far as an event got as far as each one before
pub reached_before : (b : Behaviour) (m : Answers) (v k : ℕ) → v ≤ k → IsReached (after b m k) k → IsReached (after b m v) v
reached_before b m v zero l h = let e : v ≡ zero = omega (arith, l) in subst (λ n. IsReached (after b m n) n) (sym e) h
reached_before b m v (suc k) l h =
    ⊎_elim
    (λ (e : v ≡ suc k). subst (λ n. IsReached (after b m n) n) (sym e) h)
    (λ (lt : v < suc k). reached_before b m v k (omega (arith, lt)) (omega (arith, h, next_count b m (after b m k) (fits_after b m k), count_at_most b m k)))
    (eq-or-lt_of_le l)
