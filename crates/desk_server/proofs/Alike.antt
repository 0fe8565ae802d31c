-- A run that is the same of a session and of the plain machine.
use Rattle.std.proofs.Common.{◌≡◌, ◌≤◌, ℕ, suc, ◌-◌, Bool, true, false, Option, Some, None, inl, inr, refl, sym, subst, ap, ◌∙◌}
use Rattle.module_api.specs.Behaviour.{Behaviour}
use Rattle.model_data.specs.declared.model.Model.{Model}
use Rattle.model_questions.specs.Answers.{Answers}
use Rattle.model_answers.specs.Answering.{answers_of}
use Rattle.run_semantics.specs.Run.{run_to, is_fault}
use Rattle.edit_session.specs.Editing.{Editing, start_in}
use Rattle.checkpoints.specs.Stored.{is_multiple, Timeline}
use Rattle.checkpoint_runs.specs.declared.phases.AtSetup.{AtSetup}
use Rattle.checkpoint_runs.specs.declared.phases.Phase.{Phase}
use Rattle.checkpoint_runs.specs.declared.phases.Point.{Point}
use Rattle.checkpoint_runs.specs.declared.phases.Point.TheVariants as point
use Rattle.checkpoint_runs.specs.declared.phases.Resumed.{Resumed}
use Rattle.checkpoint_runs.specs.declared.phases.Stood.{Stood}
use Rattle.checkpoint_runs.specs.declared.phases.Stood.TheVariants as stood
use Rattle.checkpoint_runs.specs.declared.phases.Wait.{Wait}
use Rattle.checkpoint_runs.specs.Positions.{behind, cut, first_behind, is_left, numbers_from, positions_after, positions_begun, start_of, starts_within, CanGoOn, HasGoneTo, HasStored, HasStoredAnew}
use Rattle.checkpoint_runs.specs.Running.{at_setup, began_at, positions_at, resumed, resumed_if, wait_of}
use Rattle.checkpoint_runs.proofs.Back.{cut_again, start_again}
use Rattle.checkpoint_runs.proofs.Onwards.{after_onwards, begun_onwards, stored_onwards}
use Rattle.desk_answers.specs.Turns.{answer_from, run_answer}
use Rattle.desk_server.specs.Served.{Machine}
use Rattle.desk_server.specs.Serving.{Seen, BeginsAlike, GoesOnAlike, IsAt, RunsAlike, StandsThere, StartsAlike, WaitsIn}
use Rattle.desk_server.proofs.Places.{IsThere, is_there, is_within, limited_resumed, resumed_there, resumed_declined, resumed_waiting}

-- ---- the answer

begins_same : (b : Behaviour) (m : Answers) (limit : ℕ) (r : Option Resumed) (old machine : Timeline ℕ) → StartsAlike b m limit r old machine → began_at limit r old.stored ≡ start_of limit machine.stored
begins_same b m limit None old machine h = h.start
begins_same b m limit (Some r) old machine h = sym h.start

pub same_answer : (b : Behaviour) (limit : ℕ) (e : Editing) (s : Machine) → RunsAlike b limit e s
    → answer_from b e.model limit (start_in e limit) ≡ run_answer b s.model limit s.positions.stored
same_answer b limit e s same =
    ap (λ (m : Model). answer_from b m limit (start_in e limit)) same.model
    ∙ ap (answer_from b s.model limit) (begins_same b (answers_of s.model) limit (resumed limit e.phase) e.positions s.positions same.starts)

-- ---- the positions

-- those that a run leaves, which began there with these
abbrev left_from : Behaviour → Answers → ℕ → Timeline ℕ → Option ℕ → Timeline ℕ
left_from b m limit old start =
    let ran = run_to b m limit in
    behind (is_left ran.world.count (is_fault ran.outcome)) old (numbers_from (first_behind start) (suc ran.world.count - first_behind start))

left_same : (b : Behaviour) (m : Answers) (limit : ℕ) (r : Option Resumed) (old machine : Timeline ℕ) → StartsAlike b m limit r old machine → positions_after b m limit r old ≡ positions_after b m limit None machine
left_same b m limit None old machine h =
    ap (λ (t : Timeline ℕ). left_from b m limit t (start_of limit old.stored)) h.kept
    ∙ ap (left_from b m limit (cut (start_of limit machine.stored) machine)) h.start
left_same b m limit (Some r) old machine h = ap (positions_after b m limit (Some r)) h.positions ∙ after_onwards b m limit r machine h.going h.limited h.start h.within

pub same_positions : (b : Behaviour) (limit : ℕ) (e : Editing) (s : Machine) → RunsAlike b limit e s
    → positions_after b (answers_of e.model) limit (resumed limit e.phase) e.positions ≡ positions_after b (answers_of s.model) limit None s.positions
same_positions b limit e s same =
    ap (λ (m : Model). positions_after b (answers_of m) limit (resumed limit e.phase) e.positions) same.model
    ∙ left_same b (answers_of s.model) limit (resumed limit e.phase) e.positions s.positions same.starts

same_begun : (more : ℕ) (old other : Timeline ℕ) (start from : Option ℕ) → start ≡ from → cut start old ≡ cut from other → positions_begun old start more ≡ positions_begun other from more
same_begun more old other start from is kept =
    ap (λ (t : Timeline ℕ). behind is_multiple t (numbers_from (first_behind start) more)) kept
    ∙ ap (λ (at : Option ℕ). behind is_multiple (cut from other) (numbers_from (first_behind at) more)) is

-- a run that went so far stored the same
same_gone : (b : Behaviour) (m : Answers) (limit k more less : ℕ) (old machine new : Timeline ℕ) → BeginsAlike limit old machine → more ≡ less
    → HasGoneTo b m limit old (start_of limit old.stored) k more new → HasGoneTo b m limit machine (start_of limit machine.stored) k less new
same_gone b m limit k more less old machine new same fewer h = record {
  going = h.going;
  limited = h.limited;
  within = subst (λ (o : Option ℕ). starts_within o k) same.start h.within;
  positions = h.positions ∙ same_begun more old machine (start_of limit old.stored) (start_of limit machine.stored) same.start same.kept
      ∙ ap (λ (n : ℕ). positions_begun machine (start_of limit machine.stored) n) fewer;
}

-- where both begin with setup nothing is left
none_kept : (limit : ℕ) (old machine : Timeline ℕ) → BeginsAlike limit old machine → start_of limit old.stored ≡ None → cut None old ≡ cut None machine
none_kept limit old machine same none =
    let other : start_of limit machine.stored ≡ None = sym same.start ∙ none in
    subst (λ (o : Option ℕ). cut None old ≡ cut o machine) other (subst (λ (o : Option ℕ). cut o old ≡ cut (start_of limit machine.stored) machine) none same.kept)

stored_anew : (b : Behaviour) (m : Answers) (limit : ℕ) (old machine : Timeline ℕ) (at : Stood) (new : Timeline ℕ) → BeginsAlike limit old machine
    → HasStoredAnew b m limit old at new → HasStoredAnew b m limit machine at new
stored_anew b m limit old machine stood.Before new same h = (sym same.start ∙ h.0, h.1 ∙ none_kept limit old machine same h.0)
stored_anew b m limit old machine (stood.After k) new same h =
    same_gone b m limit k (suc k - first_behind (start_of limit old.stored)) (suc k - first_behind (start_of limit machine.stored)) old machine new same (ap (λ (o : Option ℕ). suc k - first_behind o) same.start) h
stored_anew b m limit old machine (stood.Untaken k) new same h =
    same_gone b m limit k (k - first_behind (start_of limit old.stored)) (k - first_behind (start_of limit machine.stored)) old machine new same (ap (λ (o : Option ℕ). k - first_behind o) same.start) h
stored_anew b m limit old machine stood.Ending new same left = left ∙ left_same b m limit None old machine same

stored_same : (b : Behaviour) (m : Answers) (limit : ℕ) (r : Option Resumed) (old machine : Timeline ℕ) (at : Stood) (new : Timeline ℕ) → StartsAlike b m limit r old machine
    → HasStored b m limit r old at new → HasStored b m limit None machine at new
stored_same b m limit None old machine at new same h = stored_anew b m limit old machine at new same h
stored_same b m limit (Some r) old machine at new same h =
    stored_onwards b m limit r machine at new same.start same.within
    (subst (λ (t : Timeline ℕ). HasStored b m limit (Some r) t at new) same.positions h)

pub same_stored : (b : Behaviour) (limit : ℕ) (e : Editing) (s : Machine) (at : Stood) (new : Timeline ℕ) → RunsAlike b limit e s
    → HasStored b (answers_of e.model) limit (resumed limit e.phase) e.positions at new → HasStored b (answers_of s.model) limit None s.positions at new
same_stored b limit e s at new same h =
    stored_same b (answers_of s.model) limit (resumed limit e.phase) e.positions s.positions at new same.starts
    (subst (λ (m : Model). HasStored b (answers_of m) limit (resumed limit e.phase) e.positions at new) same.model h)

-- ---- where the session is where the machine is

pub at_alike : (b : Behaviour) (limit : ℕ) (e : Editing) (s : Machine) → IsAt b e s → RunsAlike b limit e s
at_alike b limit e s at = record {
  model = at.model;
  starts = subst (λ (phase : Phase). StartsAlike b (answers_of s.model) limit (resumed limit phase) e.positions s.positions) (sym at.idle) (record {
    start = ap (λ (t : Timeline ℕ). start_of limit t.stored) at.positions;
    kept = ap (λ (t : Timeline ℕ). cut (start_of limit t.stored) t) at.positions;
  });
}

-- ---- where it waits for a box

-- to cut them there once more changes nothing
cut_twice : (start : Option ℕ) (old : Timeline ℕ) → cut start (cut start old) ≡ cut start old
cut_twice None old = refl
cut_twice (Some k) old = cut_again k old

-- where it begins
begins_there : (limit : ℕ) (old machine new : Timeline ℕ) → BeginsAlike limit old machine → new ≡ cut (start_of limit old.stored) old → BeginsAlike limit new machine
begins_there limit old machine new same is =
    let start : Option ℕ = start_of limit old.stored in
    record {
      start = ap (λ (t : Timeline ℕ). start_of limit t.stored) is ∙ start_again limit old ∙ same.start;
      kept = ap (λ (t : Timeline ℕ). cut (start_of limit t.stored) t) is ∙ ap (λ o. cut o (cut start old)) (start_again limit old) ∙ cut_twice start old ∙ same.kept;
    }

-- before an event, where it began
held_up : (b : Behaviour) (m : Answers) (limit k : ℕ) (from : Option ℕ) (declined : Bool) (old machine : Timeline ℕ) → BeginsAlike limit old machine → from ≡ start_of limit old.stored → CanGoOn b m k → k ≤ limit → starts_within (start_of limit old.stored) k
    → GoesOnAlike b m limit (record { from = from; count = k; declined = declined }) (positions_begun old (start_of limit old.stored) (suc k - first_behind (start_of limit old.stored))) machine
held_up b m limit k from declined old machine same is going within since =
    let start : Option ℕ = start_of limit old.stored in
    let there : start ≡ start_of limit machine.stored = same.start in
    let here : start_of limit machine.stored ≡ from = sym there ∙ sym is in
    record {
      going = going;
      limited = within;
      start = here;
      within = subst (λ (o : Option ℕ). starts_within o k) (sym is) since;
      positions = same_begun (suc k - first_behind start) old machine start (start_of limit machine.stored) there same.kept
          ∙ ap (λ (o : Option ℕ). positions_begun machine o (suc k - first_behind start)) here
          ∙ ap (λ (o : Option ℕ). positions_begun machine from (suc k - first_behind o)) (sym is);
    }

-- the same of one that went on
held_up_again : (b : Behaviour) (m : Answers) (limit k : ℕ) (r : Resumed) (from : Option ℕ) (declined : Bool) (old machine : Timeline ℕ) → GoesOnAlike b m limit r old machine → from ≡ r.from → r.count ≤ k → CanGoOn b m k → k ≤ limit
    → GoesOnAlike b m limit (record { from = from; count = k; declined = declined }) (behind is_multiple old (numbers_from (suc r.count) (k - r.count))) machine
held_up_again b m limit k r from declined old machine same is grew going within = record {
  going = going;
  limited = within;
  start = same.start ∙ sym is;
  within = subst (λ (o : Option ℕ). starts_within o k) (sym is) (is_within r.from r.count k grew same.within);
  positions = ap (λ (t : Timeline ℕ). behind is_multiple t (numbers_from (suc r.count) (k - r.count))) same.positions
      ∙ begun_onwards machine r.from r.count k same.within grew
      ∙ ap (λ (o : Option ℕ). positions_begun machine o (suc k - first_behind o)) (sym is);
}

goes_there : (b : Behaviour) (m : Answers) (limit : ℕ) (at : AtSetup) (r : Option Resumed) (from : Option ℕ) (there : Point) (declined : Bool) (old machine : Timeline ℕ) → StartsAlike b m limit r old machine
    → IsThere b m limit at r (start_of limit old.stored) from there → StartsAlike b m limit (resumed_there limit from there declined) (positions_at limit r there old) machine
goes_there b m limit at None from point.Setup declined old machine same is =
    begins_there limit old machine (cut None old) same (ap (λ (o : Option ℕ). cut o old) (sym is.0))
goes_there b m limit at (Some r) from point.Setup declined old machine same is = absurd is
goes_there b m limit at None from point.Position declined old machine same is = begins_there limit old machine (cut (start_of limit old.stored) old) same refl
goes_there b m limit at (Some r) from point.Position declined old machine same is = absurd is
goes_there b m limit at None from (point.Start k id) declined old machine same is =
    let new : Timeline ℕ = positions_begun old (start_of limit old.stored) (suc k - first_behind (start_of limit old.stored)) in
    subst (λ (t : Bool). StartsAlike b m limit (resumed_if t (record { from = from; count = k; declined = declined })) new machine) (sym is.1.least)
    (held_up b m limit k from declined old machine same is.0 is.1.going is.1.limited is.2)
goes_there b m limit at (Some r) from (point.Start k id) declined old machine same is =
    let new : Timeline ℕ = behind is_multiple old (numbers_from (suc r.count) (k - r.count)) in
    subst (λ (t : Bool). StartsAlike b m limit (resumed_if t (record { from = from; count = k; declined = declined })) new machine) (sym is.1.least)
    (held_up_again b m limit k r from declined old machine same is.0 is.3 is.1.going is.1.limited)

phase_there : (limit : ℕ) (wait : Wait) (phase : Phase) → StandsThere wait phase → (declined : Bool) × (resumed limit phase ≡ resumed_there limit wait.from wait.at declined)
phase_there limit wait phase (inl waits) = (false, ap (resumed limit) waits ∙ resumed_waiting limit wait.from wait.at)
phase_there limit wait phase (inr told) = (true, ap (resumed limit) told ∙ resumed_declined limit wait.from wait.at)

pub waits_alike : (b : Behaviour) (limit : ℕ) (before after : Seen) (s : Machine) → WaitsIn b before after limit → RunsAlike b limit before.editing s → RunsAlike b limit after.editing s
waits_alike b limit before after s w same =
    let e : Editing = before.editing in
    let m : Answers = answers_of s.model in
    let there = is_there b m limit (at_setup e.phase) (resumed limit e.phase) e.positions.stored e.boxes e.supplied w.wait (limited_resumed limit e.phase)
    (subst (λ (x : Model). wait_of b (answers_of x) limit (at_setup e.phase) (resumed limit e.phase) e.positions.stored e.boxes e.supplied ≡ Some w.wait) same.model w.is) in
    let stands = phase_there limit w.wait after.editing.phase w.phase in
    record {
      model = w.model ∙ same.model;
      starts = subst (λ (r : Option Resumed). StartsAlike b m limit r after.editing.positions s.positions) (sym stands.1)
          (subst (λ (t : Timeline ℕ). StartsAlike b m limit (resumed_there limit w.wait.from w.wait.at stands.0) t s.positions) (sym w.positions)
          (goes_there b m limit (at_setup e.phase) (resumed limit e.phase) w.wait.from w.wait.at stands.0 e.positions s.positions same.starts there));
    }
