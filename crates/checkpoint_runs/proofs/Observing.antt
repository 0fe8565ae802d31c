-- Who observes a run is told its events, one after the other.
use Rattle.std.proofs.Common.{◌≡◌, inl, inr, ℕ, zero, suc, ◌+◌, ◌-◌, ◌≤◌, ◌<◌, ◌&&◌, nat_lt, Bool, true, false, List, Option, Some, None, refl, sym, ap, arith, subst, if◌then◌else◌}
use Rattle.std.proofs.lemmas.Bool.Decides.{nat_tests}
use Rattle.module_api.specs.Behaviour.{Behaviour}
use Rattle.model_questions.specs.Answers.{Answers}
use Rattle.run_semantics.specs.declared.outcome.Outcome.{Outcome}
use Rattle.run_semantics.specs.Run.{Running, Over, Ran, after, run_to, start, is_fault, world_at}
use Rattle.run_semantics.specs.World.{World}
use Rattle.checkpoint_runs.specs.declared.phases.Progress.{Progress}
use Rattle.checkpoint_runs.specs.declared.phases.Resumed.{Resumed}
use Rattle.checkpoint_runs.specs.declared.phases.RunStatus.{RunStatus}
use Rattle.checkpoint_runs.specs.declared.phases.RunStatus.TheVariants as status
use Rattle.checkpoint_runs.specs.declared.phases.Stood.{Stood}
use Rattle.checkpoint_runs.specs.declared.phases.Stood.TheVariants as stood
use Rattle.checkpoint_runs.specs.Kept.{is_owed}
use Rattle.checkpoint_runs.specs.Positions.{lasting}
use Rattle.checkpoint_runs.specs.Running.{progress_of}
use Rattle.checkpoint_runs.specs.Telling.{Told, Began, Executed, AreTold}
use Rattle.checkpoint_runs.specs.Observing.{behind_setup, executed_after, executed_from, last_told, told_by, told_from, told_when, went_on, AreExecuted, IsTold}
use Rattle.checkpoint_runs.proofs.Going.{count_is, owed_is_no_fault}

-- ---- where it goes on

-- once event zero is done
pub on_setup : (b : Behaviour) (m : Answers) (w : World) → Running w ≡ after b m 0 → behind_setup (start b m) ≡ Some 0
on_setup b m w going = ap behind_setup (sym going)

-- event zero was a fault
pub on_nothing : (b : Behaviour) (m : Answers) (w : World) (outcome : Outcome) → Over w outcome ≡ start b m → behind_setup (start b m) ≡ None
on_nothing b m w outcome over = ap behind_setup (sym over)

-- where it waited
pub on_waited : (b : Behaviour) (m : Answers) (limit : ℕ) (r : Resumed) (stored : List ℕ) → (r.declined && nat_lt r.count limit) ≡ false → went_on b m limit (Some r) stored ≡ Some r.count
on_waited b m limit r stored e = ap (λ (t : Bool). if t then None else Some r.count) e

pub both_hold : (d : Bool) (k limit : ℕ) → d ≡ true → k < limit → (d && nat_lt k limit) ≡ true
both_hold true k limit e l = grind (arith, nat_tests, l)
both_hold false k limit e l = cc

-- its box was declined
pub on_declined : (b : Behaviour) (m : Answers) (limit : ℕ) (r : Resumed) (stored : List ℕ) → (r.declined && nat_lt r.count limit) ≡ true → went_on b m limit (Some r) stored ≡ None
on_declined b m limit r stored e = ap (λ (t : Bool). if t then None else Some r.count) e

-- ---- what is told of it

pub last_is : (b : Behaviour) (m : Answers) (limit : ℕ) (w : World) (outcome : Outcome) → run_to b m limit ≡ record { world = w; outcome = outcome } → lasting (is_fault outcome) w.count ≡ last_told b m limit
last_is b m limit w outcome ran = ap (λ (r : Ran). lasting (is_fault r.outcome) r.world.count) (sym ran)

pub told_of_progress : (b : Behaviour) (m : Answers) (limit : ℕ) (on from : Option ℕ) (count : ℕ) (s : RunStatus Outcome) → told_by b m limit on (progress_of from count s) ≡ told_when b m limit on count s
told_of_progress b m limit on from count (status.Waits request) = refl
told_of_progress b m limit on from count (status.Done outcome) = refl

module _ {O : Type 0} where
  -- ---- one event more

  told_more : (b : Behaviour) (m : Answers) (told : O → Told → O → Type 0) (first n : ℕ) (old mid new : O) → AreTold told old (executed_from b m first n) mid → told mid (Executed (first + n) (world_at (after b m (first + n))).clock) new → AreTold told old (executed_from b m first (suc n)) new
  told_more b m told first zero old mid new h t =
      let e : first + 0 ≡ first = omega arith in (
        new,
        subst (λ k. told old (Executed k (world_at (after b m k)).clock) new) e (subst (λ o. told o (Executed (first + 0) (world_at (after b m (first + 0))).clock) new) h t),
        refl,
      )
  told_more b m told first (suc n) old mid new h t =
      let e : first + suc n ≡ suc first + n = omega arith in (
        h.0,
        h.1,
        told_more b m told (suc first) n h.0 mid new h.2 (subst (λ k. told mid (Executed k (world_at (after b m k)).clock) new) e t),
      )

  pub told_next : (b : Behaviour) (m : Answers) (told : O → Told → O → Type 0) (from k : ℕ) (old mid new : O) (w : World) → from ≤ k → Running w ≡ after b m (suc k) → AreTold told old (executed_after b m from k) mid → told mid (Executed w.count w.clock) new
      → AreTold told old (executed_after b m from (suc k)) new
  told_next b m told from k old mid new w l going h t =
      let d : suc k - from ≡ suc (k - from) = omega (arith, l) in
      let n : suc k ≡ suc from + (k - from) = omega (arith, l) in
      let count : w.count ≡ suc k = count_is b m (suc k) w going in
      let here : told mid (Executed (suc k) (world_at (after b m (suc k))).clock) new =
      subst (λ s. told mid (Executed (suc k) (world_at s).clock) new) going (subst (λ i. told mid (Executed i w.clock) new) count t) in
      subst (λ i. AreTold told old (executed_from b m (suc from) i) new) (sym d)
      (told_more b m told (suc from) (k - from) old mid new h (subst (λ i. told mid (Executed i (world_at (after b m i)).clock) new) n here))

  -- none is told of where it goes on
  pub told_first : (b : Behaviour) (m : Answers) (told : O → Told → O → Type 0) (from : ℕ) (o : O) → AreTold told o (executed_after b m from from) o
  told_first b m told from o = let z : from - from ≡ 0 = omega arith in subst (λ i. AreTold told o (executed_from b m (suc from) i) o) (sym z) refl

  -- up to the same event
  pub told_up_to : (b : Behaviour) (m : Answers) (told : O → Told → O → Type 0) (from k last : ℕ) (old new : O) → k ≡ last → AreTold told old (executed_after b m from k) new → AreTold told old (executed_after b m from last) new
  told_up_to b m told from k last old new e h = subst (λ i. AreTold told old (executed_after b m from i) new) e h

  -- ---- events are executed, and memory runs out

  pub executed_until : (b : Behaviour) (m : Answers) (told : O → Told → O → Type 0) (from k : ℕ) (old new : O) (at : Stood) → at ≡ stood.After k → AreTold told old (executed_after b m from k) new → AreExecuted b m from told old at new
  executed_until b m told from k old new at e h = subst (λ (x : Stood). AreExecuted b m from told old x new) (sym e) h

  pub executed_untaken : (b : Behaviour) (m : Answers) (told : O → Told → O → Type 0) (from k : ℕ) (old new : O) (at : Stood) → at ≡ stood.Untaken k → AreTold told old (executed_after b m from k) new → AreExecuted b m from told old at new
  executed_untaken b m told from k old new at e h = subst (λ (x : Stood). AreExecuted b m from told old x new) (sym e) h

  -- ---- it was told where it goes on

  pub until_executed : (b : Behaviour) (m : Answers) (limit : ℕ) (told : O → Told → O → Type 0) (from : ℕ) (old mid new : O) (at : Stood) → told old (Began from limit) mid → AreExecuted b m from told mid at new → IsTold b m limit (Some from) told old at new
  until_executed b m limit told from old mid new stood.Before t h = absurd h
  until_executed b m limit told from old mid new (stood.After k) t h = inr (mid, t, h)
  until_executed b m limit told from old mid new (stood.Untaken k) t h = inr (mid, t, h)
  until_executed b m limit told from old mid new stood.Ending t h = absurd h

  -- it waits before an event
  pub until_waits : (b : Behaviour) (m : Answers) (limit : ℕ) (told : O → Told → O → Type 0) (from k : ℕ) (old mid new : O) (at : Stood) → at ≡ stood.After k → told old (Began from limit) mid → AreTold told mid (executed_after b m from k) new → IsTold b m limit (Some from) told old at new
  until_waits b m limit told from k old mid new at e t h = subst (λ (x : Stood). IsTold b m limit (Some from) told old x new) (sym e) (inr (mid, t, h))

  -- the position after its last event could not be taken
  pub until_owed : (b : Behaviour) (m : Answers) (limit : ℕ) (told : O → Told → O → Type 0) (from last : ℕ) (outcome : Outcome) (counts : List ℕ) (old mid new : O) (at : Stood) → at ≡ stood.Untaken last → is_owed (is_fault outcome) last counts ≡ true
      → told old (Began from limit) mid → AreTold told mid (executed_after b m from (lasting (is_fault outcome) last)) new → IsTold b m limit (Some from) told old at new
  until_owed b m limit told from last outcome counts old mid new at e owed t h =
      let f : is_fault outcome ≡ false = owed_is_no_fault (is_fault outcome) last counts owed in
      let all : AreTold told mid (executed_after b m from last) new = subst (λ c. AreTold told mid (executed_after b m from (lasting c last)) new) f h in
      subst (λ (x : Stood). IsTold b m limit (Some from) told old x new) (sym e) (inr (mid, t, all))

  -- all of it was told
  pub told_to_end : (b : Behaviour) (m : Answers) (limit : ℕ) (told : O → Told → O → Type 0) (from : ℕ) (w : World) (outcome : Outcome) (old mid new : O) → run_to b m limit ≡ record { world = w; outcome = outcome } → told old (Began from limit) mid
      → AreTold told mid (executed_after b m from (lasting (is_fault outcome) w.count)) new → AreTold told old (told_from b m limit (Some from) (last_told b m limit)) new
  told_to_end b m limit told from w outcome old mid new ran t h = (mid, t, told_up_to b m told from (lasting (is_fault outcome) w.count) (last_told b m limit) mid new (last_is b m limit w outcome ran) h)

  pub until_end : (b : Behaviour) (m : Answers) (limit : ℕ) (told : O → Told → O → Type 0) (from : ℕ) (w : World) (outcome : Outcome) (old mid new : O) (at : Stood) → at ≡ stood.Ending → run_to b m limit ≡ record { world = w; outcome = outcome } → told old (Began from limit) mid
      → AreTold told mid (executed_after b m from (lasting (is_fault outcome) w.count)) new → IsTold b m limit (Some from) told old at new
  until_end b m limit told from w outcome old mid new at e ran t h = subst (λ (x : Stood). IsTold b m limit (Some from) told old x new) (sym e) (told_to_end b m limit told from w outcome old mid new ran t h)

  -- ---- it was told nothing

  -- event zero is not done
  pub until_before : (b : Behaviour) (m : Answers) (limit : ℕ) (on : Option ℕ) (told : O → Told → O → Type 0) (o : O) (at : Stood) → at ≡ stood.Before → IsTold b m limit on told o at o
  until_before b m limit on told o at e = subst (λ (x : Stood). IsTold b m limit on told o x o) (sym e) refl

  -- it would go on from where it stands
  pub until_there : (b : Behaviour) (m : Answers) (limit k : ℕ) (on : Option ℕ) (told : O → Told → O → Type 0) (o : O) (at : Stood) → on ≡ Some k → at ≡ stood.After k → IsTold b m limit on told o at o
  until_there b m limit k on told o at here e = subst (λ (x : Stood). IsTold b m limit on told o x o) (sym e) (inl (here, refl))

  pub until_untaken : (b : Behaviour) (m : Answers) (limit k : ℕ) (on : Option ℕ) (told : O → Told → O → Type 0) (o : O) (at : Stood) → on ≡ Some k → at ≡ stood.Untaken k → IsTold b m limit on told o at o
  until_untaken b m limit k on told o at here e = subst (λ (x : Stood). IsTold b m limit on told o x o) (sym e) (inl (here, refl))

  -- it goes on nowhere
  pub told_nothing : (b : Behaviour) (m : Answers) (limit last : ℕ) (on : Option ℕ) (told : O → Told → O → Type 0) (o : O) → on ≡ None → AreTold told o (told_from b m limit on last) o
  told_nothing b m limit last on told o e = subst (λ (x : Option ℕ). AreTold told o (told_from b m limit x last) o) (sym e) refl

  pub until_nothing : (b : Behaviour) (m : Answers) (limit k : ℕ) (on : Option ℕ) (told : O → Told → O → Type 0) (o : O) (at : Stood) → on ≡ None → at ≡ stood.After k → IsTold b m limit on told o at o
  until_nothing b m limit k on told o at none e = subst (λ (x : Stood). IsTold b m limit on told o x o) (sym e) (inr (told_nothing b m limit k on told o none))

  pub until_ended : (b : Behaviour) (m : Answers) (limit : ℕ) (on : Option ℕ) (told : O → Told → O → Type 0) (o : O) (at : Stood) → on ≡ None → at ≡ stood.Ending → IsTold b m limit on told o at o
  until_ended b m limit on told o at none e = subst (λ (x : Stood). IsTold b m limit on told o x o) (sym e) (told_nothing b m limit (last_told b m limit) on told o none)

  -- ---- it goes on at the same event

  pub until_on : (b : Behaviour) (m : Answers) (limit : ℕ) (on there : Option ℕ) (told : O → Told → O → Type 0) (old new : O) (at : Stood) → on ≡ there → IsTold b m limit there told old at new → IsTold b m limit on told old at new
  until_on b m limit on there told old new at e h = subst (λ (x : Option ℕ). IsTold b m limit x told old at new) (sym e) h

  pub told_on : (b : Behaviour) (m : Answers) (limit count : ℕ) (on there : Option ℕ) (told : O → Told → O → Type 0) (old new : O) (s : RunStatus Outcome) → on ≡ there → AreTold told old (told_when b m limit there count s) new → AreTold told old (told_when b m limit on count s) new
  told_on b m limit count on there told old new s e h = subst (λ (x : Option ℕ). AreTold told old (told_when b m limit x count s) new) (sym e) h

  pub told_by_on : (b : Behaviour) (m : Answers) (limit : ℕ) (on there : Option ℕ) (told : O → Told → O → Type 0) (old new : O) (p : Progress) → on ≡ there → AreTold told old (told_by b m limit there p) new → AreTold told old (told_by b m limit on p) new
  told_by_on b m limit on there told old new p e h = subst (λ (x : Option ℕ). AreTold told old (told_by b m limit x p) new) (sym e) h

  -- of a run that went on from there
  pub told_in_progress : (b : Behaviour) (m : Answers) (limit count : ℕ) (on there from : Option ℕ) (told : O → Told → O → Type 0) (old new : O) (s : RunStatus Outcome) → on ≡ there → AreTold told old (told_when b m limit there count s) new
      → AreTold told old (told_by b m limit on (progress_of from count s)) new
  told_in_progress b m limit count on there from told old new s e h =
      subst (λ ts. AreTold told old ts new) (sym (told_of_progress b m limit on from count s)) (told_on b m limit count on there told old new s e h)
