-- Which positions the runs of a session leave, by their counts of events.
use Rattle.std.specs.Prelude.{◌≡◌, ◌≤◌, ◌<◌, ◌^◌, ℕ, zero, suc, ◌+◌, ◌-◌, ◌==◌, nat_le, Bool, not}
use Rattle.std.specs.Prelude.{true, false, ◌&&◌, List, [], ◌∷◌, ◌++◌, length, Option, Some, None}
use Rattle.std.specs.Prelude.{if◌then◌else◌}
use Rattle.std.specs.List.{filter}
use Rattle.checkpoints.specs.Stored.{begun, ends_at, is_multiple, left, most_stored, with_count}
use Rattle.checkpoints.specs.Stored.{Timeline}
use Rattle.module_api.specs.Behaviour.{Behaviour}
use Rattle.model_questions.specs.Answers.{Answers}
use Rattle.run_semantics.specs.Run.{Running, Ran, after, run_to, is_fault}
use Rattle.run_semantics.specs.World.{World}
use Rattle.checkpoint_runs.specs.declared.phases.Resumed.{Resumed}
use Rattle.checkpoint_runs.specs.declared.phases.Stood.{Stood}
use Rattle.checkpoint_runs.specs.declared.phases.Stood.TheVariants as stood

-- so many numbers, from this one on
abbrev pub numbers_from : ℕ → ℕ → List ℕ
numbers_from first zero = []
numbers_from first (suc more) = first ∷ numbers_from (suc first) more

-- the last one, which of rising ones is the greatest
abbrev pub last_from : ℕ → List ℕ → ℕ
last_from n [] = n
last_from n (m ∷ ms) = last_from m ms

abbrev pub last_count : List ℕ → Option ℕ
last_count [] = None
last_count (n ∷ ns) = Some (last_from n ns)

-- those up to an event; up to none there is none
abbrev pub up_to_event : Option ℕ → List ℕ → List ℕ
up_to_event None counts = []
up_to_event (Some event) counts = filter (λ n. nat_le n event) counts

-- THE OTHERS ARE CUT, by an edit and where a run goes back: those up to an event are left
abbrev pub cut : Option ℕ → Timeline ℕ → Timeline ℕ
cut event t = left t (up_to_event event t.stored)

-- WHERE A RUN BEGINS: at the greatest position up to its limit; where there is none, with setup
abbrev pub start_of : ℕ → List ℕ → Option ℕ
start_of limit counts = last_count (up_to_event (Some limit) counts)

-- the first event after that: of a run from setup that is event zero
abbrev pub first_behind : Option ℕ → ℕ
first_behind None = 0
first_behind (Some event) = suc event

-- how many events are executed after it: event zero, which is setup, is none
abbrev pub events_behind : Option ℕ → ℕ → ℕ
events_behind None count = count
events_behind (Some event) count = count - event

-- a start that is no later than so many events
abbrev pub starts_within : Option ℕ → ℕ → Type 0
starts_within None count = Unit {0}
starts_within (Some event) count = event ≤ count

-- after one event: where a position is due there, by the interval as it is then, one is taken
abbrev pub passed : (ℕ → ℕ → Bool) → Timeline ℕ → ℕ → Timeline ℕ
passed due t n = if due t.interval n then with_count n t else t

-- THE POSITIONS BEHIND EVENTS of these numbers, one after the other
abbrev pub behind : (ℕ → ℕ → Bool) → Timeline ℕ → List ℕ → Timeline ℕ
behind due t [] = t
behind due t (n ∷ ns) = behind due (passed due t n) ns

-- whether a run whose last event was this one leaves a position after that event: after each
-- multiple of the interval, and after its last one unless that ended in a fault
abbrev pub is_left : ℕ → Bool → ℕ → ℕ → Bool
is_left last faulted interval n = if n == last then not faulted else is_multiple interval n

-- THE POSITIONS THAT A RUN LEAVES: the old ones are cut to where it began, and after them its own
-- are taken
abbrev pub positions_left : Timeline ℕ → Option ℕ → ℕ → Bool → Timeline ℕ
positions_left old start last faulted =
    behind (is_left last faulted) (cut start old)
    (numbers_from (first_behind start) (suc last - first_behind start))

-- the numbers of the events after which a run leaves a position where its interval stays
abbrev pub due_behind : Option ℕ → ℕ → Bool → ℕ → List ℕ
due_behind start last faulted interval = filter (is_left last faulted interval)
    (numbers_from (first_behind start) (suc last - first_behind start))

-- Where no 65th is taken, all stay: those up to where it began, and its own after them.
abbrev pub AllStay : Timeline ℕ → Option ℕ → ℕ → Bool → Type 0
AllStay old start last faulted =
    let kept = cut start old in
    let own = due_behind start last faulted kept.interval in
    length kept.stored + length own ≤ most_stored → positions_left old start last faulted
    ≡ record { first = kept.first; interval = kept.interval; stored = kept.stored ++ own }

-- the same, of a run that was given up before its end, or waits: of its events so many are those
-- after whose multiples one was taken
abbrev pub positions_begun : Timeline ℕ → Option ℕ → ℕ → Timeline ℕ
positions_begun old start more =
    behind is_multiple (cut start old) (numbers_from (first_behind start) more)

-- ---- a run that goes on

-- of events up to this one, those that did not end in a fault
abbrev pub lasting : Bool → ℕ → ℕ
lasting true last = last - 1
lasting false last = last

-- after its last event a run takes one, where none is stored there and that did not end in a fault
abbrev pub with_last : ℕ → Bool → Timeline ℕ → Timeline ℕ
with_last last faulted t =
    if not faulted && not (ends_at last t.stored) then with_count last t else t

-- THE POSITIONS THAT A RUN LEAVES that went on after so many events: after those that there were
-- stand those of its multiples, and the one after its last event
abbrev pub positions_onwards : Timeline ℕ → ℕ → ℕ → Bool → Timeline ℕ
positions_onwards old from last faulted = with_last last faulted
    (behind is_multiple old (numbers_from (suc from) (lasting faulted last - from)))

-- the run of the model goes on after so many events
abbrev pub CanGoOn : Behaviour → Answers → ℕ → Type 0
CanGoOn b m k = (w : World) × (Running w ≡ after b m k)

-- after the positions that there were stand its own; a fault is that of an event after where it went
-- on
pub record HasLeft (from : ℕ) (before new : Timeline ℕ) (ran : Ran) : Type 0 where
  pub grew : from ≤ ran.world.count
  pub faulted : is_fault ran.outcome ≡ true → from < ran.world.count
  pub counts : new ≡ positions_onwards before from ran.world.count (is_fault ran.outcome)

-- It went on from so many events and has executed that many, no more than its limit; after the
-- positions that there were stand the multiples among so many numbers.
pub record HasGone (b : Behaviour) (m : Answers) (limit from k more : ℕ)
    (before new : Timeline ℕ) : Type 0 where
  pub going : CanGoOn b m k
  pub limited : k ≤ limit
  pub grew : from ≤ k
  pub counts : new ≡ behind is_multiple before (numbers_from (suc from) more)

-- what stands after them, by where the run to that limit stands that went on from so many events
abbrev pub HasBegun : Behaviour → Answers → ℕ → ℕ → Timeline ℕ → Stood → Timeline ℕ → Type 0
HasBegun b m limit from before stood.Before new = ⊥
HasBegun b m limit from before (stood.After k) new =
    HasGone b m limit from k (k - from) before new
HasBegun b m limit from before (stood.Untaken k) new =
    HasGone b m limit from k (k - suc from) before new × (ends_at k new.stored ≡ false)
HasBegun b m limit from before stood.Ending new = HasLeft from before new (run_to b m limit)

-- ---- of a run of the model

-- THE POSITIONS BEHIND a run of the model to that limit, where these were stored before: of one that
-- goes on where it waited, or of one that begins
abbrev pub positions_after : Behaviour → Answers → ℕ → Option Resumed → Timeline ℕ → Timeline ℕ
positions_after b m limit None old =
    let ran = run_to b m limit in
    positions_left old (start_of limit old.stored) ran.world.count (is_fault ran.outcome)
positions_after b m limit (Some r) old =
    let ran = run_to b m limit in
    positions_onwards old r.count ran.world.count (is_fault ran.outcome)

-- a run of the model to that limit, which began there, executed so many events, and of its own
-- positions those of so many numbers are stored
pub record HasGoneTo (b : Behaviour) (m : Answers) (limit : ℕ) (old : Timeline ℕ) (start : Option ℕ)
    (k more : ℕ) (new : Timeline ℕ) : Type 0 where
  pub going : CanGoOn b m k
  pub limited : k ≤ limit
  pub within : starts_within start k
  pub positions : new ≡ positions_begun old start more

-- WHAT A RUN LEAVES THAT BEGAN AND WAS GIVEN UP, by where it stood when memory ran out. Before event
-- zero was done there are none. After an event there are those that were due up to that one; where
-- its own position could not be taken, those before it. In its end there are all of its own.
abbrev pub HasStoredAnew : Behaviour → Answers → ℕ → Timeline ℕ → Stood → Timeline ℕ → Type 0
HasStoredAnew b m limit old stood.Before new =
    (start_of limit old.stored ≡ None) × (new ≡ cut None old)
HasStoredAnew b m limit old (stood.After k) new = HasGoneTo b m limit old
    (start_of limit old.stored) k (suc k - first_behind (start_of limit old.stored)) new
HasStoredAnew b m limit old (stood.Untaken k) new = HasGoneTo b m limit old
    (start_of limit old.stored) k (k - first_behind (start_of limit old.stored)) new
HasStoredAnew b m limit old stood.Ending new = new ≡ positions_after b m limit None old

-- the same of a run that may have gone on where it waited
abbrev pub HasStored : Behaviour → Answers → ℕ → Option Resumed → Timeline ℕ → Stood → Timeline ℕ
    → Type 0
HasStored b m limit None old at new = HasStoredAnew b m limit old at new
HasStored b m limit (Some r) old at new = HasBegun b m limit r.count old at new

-- ---- one run and one edit after the other

-- WHAT MAY BE STORED, whatever runs and edits came before: nothing at first; of what is stored
-- those up to an event, after an edit, or none, where a run waits for its start; what a run leaves
-- that is done; and what a run leaves that was given up, or waits. Each run may be of another model
-- and to another limit.
pub data CanBeStored : Timeline ℕ → Type 0 where
  begins : (interval : ℕ) → 1 ≤ interval → CanBeStored (begun interval)
  is_cut : (event : Option ℕ) (t : Timeline ℕ) → CanBeStored t → CanBeStored (cut event t)
  is_done : (b : Behaviour) (m : Answers) (limit : ℕ) (t : Timeline ℕ) → limit < 2 ^ 64
      → CanBeStored t → CanBeStored (positions_after b m limit None t)
  is_given_up : (b : Behaviour) (m : Answers) (limit : ℕ) (at : Stood) (t new : Timeline ℕ)
      → limit < 2 ^ 64 → HasStoredAnew b m limit t at new → CanBeStored t → CanBeStored new

-- WHAT IS STORED WHERE A RUN WAITS before an event, which began there: those that were due from
-- there up to so many events, after the ones up to where it began.
pub record IsBegunUpTo (from : Option ℕ) (k : ℕ) (t : Timeline ℕ) : Type 0 where
  pub old : Timeline ℕ
  pub stored : CanBeStored old
  pub start : start_of k old.stored ≡ from
  pub cut_is : cut from old ≡ old
  pub within : starts_within from k
  pub positions : t ≡ positions_begun old from (suc k - first_behind from)
