-- What may be stored after a run, and while it waits, whether it began or went on.
use Rattle.std.proofs.Common.{◌≡◌, ℕ, suc, ◌+◌, ◌-◌, ◌≤◌, ◌<◌, ◌^◌, nat_le, Bool, true, false, List, Option, Some, None, refl, sym, ap, ◌∙◌, subst, arith}
use Rattle.std.proofs.lemmas.Bool.Decides.{nat_tests}
use Rattle.checkpoints.specs.Stored.{counts_in, is_multiple, AreBelow, Timeline}
use Rattle.kernel_actions.specs.declared.position.Position.{Position}
use Rattle.kernel_boxes.specs.Seats.{BoxAt}
use Rattle.module_api.specs.Behaviour.{Behaviour}
use Rattle.model_answers.specs.Answering.{answers_of}
use Rattle.model_data.specs.declared.model.Model.{Model}
use Rattle.model_questions.specs.Answers.{Answers}
use Rattle.run_semantics.specs.World.{World}
use Rattle.checkpoint_runs.specs.declared.phases.Phase.{Phase}
use Rattle.checkpoint_runs.specs.declared.phases.Phase.TheVariants.{Idle, Waiting, Declined}
use Rattle.checkpoint_runs.specs.declared.phases.Point.TheVariants as point
use Rattle.checkpoint_runs.specs.declared.phases.Resumed.{Resumed}
use Rattle.checkpoint_runs.specs.declared.phases.Stood.{Stood}
use Rattle.checkpoint_runs.specs.declared.phases.Stood.TheVariants as stood
use Rattle.checkpoint_runs.specs.Kept.{HasAllBelow}
use Rattle.checkpoint_runs.specs.Positions.{behind, cut, first_behind, numbers_from, positions_after, positions_begun, last_count, start_of, starts_within, up_to_event, CanBeStored, CanGoOn, HasStored, IsBegunUpTo, is_cut, is_done, is_given_up}
use Rattle.checkpoint_runs.specs.Running.{began_at, positions_at, resumed, resumed_if, IsLive}
use Rattle.checkpoint_runs.proofs.Back.{cut_again, less_up_to}
use Rattle.checkpoint_runs.proofs.Counting.{Below, below_behind, below_more, below_numbers, cut_below, last_again, left_stored, of_counts}
use Rattle.checkpoint_runs.proofs.Onwards.{after_onwards, begun_onwards, start_within_cut, stored_onwards}
use Rattle.edit_session.specs.Editing.{Completed, IsKept, IsUndone}

-- ---- where it starts

-- What is stored where a run begins may be; one that goes on has stored what was due since it began.
abbrev pub StartsFrom : Behaviour → Answers → ℕ → Option Resumed → Timeline ℕ → Type 0
StartsFrom b m limit None old = CanBeStored old
StartsFrom b m limit (Some r) old = IsBegunUpTo r.from r.count old × CanGoOn b m r.count × (r.count ≤ limit)

is_within : (n v : ℕ) → nat_le n v ≡ true → n ≤ v
is_within n v h = grind (arith, nat_tests)

goes_on_from : (b : Behaviour) (m : Answers) (limit : ℕ) (r : Resumed) (old : Timeline ℕ) (t : Bool) → nat_le r.count limit ≡ t → CanBeStored old → IsBegunUpTo r.from r.count old → CanGoOn b m r.count → StartsFrom b m limit (resumed_if t r) old
goes_on_from b m limit r old true e stored begun_is going = (begun_is, going, is_within r.count limit e)
goes_on_from b m limit r old false e stored begun_is going = stored

-- a run that goes on does so within its limit
abbrev pub IsWithin : ℕ → Option Resumed → Type 0
IsWithin limit None = Unit {0}
IsWithin limit (Some r) = r.count ≤ limit

pub within_limit : (b : Behaviour) (m : Answers) (limit : ℕ) (r : Option Resumed) (old : Timeline ℕ) → StartsFrom b m limit r old → IsWithin limit r
within_limit b m limit None old h = tt
within_limit b m limit (Some r) old h = h.2

-- by where the last one stands
starts_from : (b : Behaviour) (m : Answers) (limit : ℕ) (phase : Phase) (w : World) (xs : List BoxAt) (last : Option Completed) (known : Option ℕ) (ps : Timeline Position) → IsLive b m w xs phase → IsUndone phase last known ps → CanBeStored (counts_in ps)
    → StartsFrom b m limit (resumed limit phase) (counts_in ps)
starts_from b m limit Idle w xs last known ps live undone stored = stored
starts_from b m limit (Waiting from point.Setup) w xs last known ps live undone stored = stored
starts_from b m limit (Waiting from point.Position) w xs last known ps live undone stored = stored
starts_from b m limit (Waiting from (point.Start k id)) w xs last known ps live undone stored =
    goes_on_from b m limit (record { from = from; count = k; declined = false }) (counts_in ps) (nat_le k limit) refl stored undone.begun_is (w, live.0.going)
starts_from b m limit (Declined from point.Setup) w xs last known ps live undone stored = stored
starts_from b m limit (Declined from point.Position) w xs last known ps live undone stored = stored
starts_from b m limit (Declined from (point.Start k id)) w xs last known ps live undone stored =
    goes_on_from b m limit (record { from = from; count = k; declined = true }) (counts_in ps) (nat_le k limit) refl stored undone.begun_is (w, live.0.going)

pub kept_starts : (b : Behaviour) (ss xs : List BoxAt) (w : World) (m : Model) (phase : Phase) (done : Option Completed) (known : Option ℕ) (ps : Timeline Position) (limit : ℕ) → IsKept b ss xs w m phase done known ps → StartsFrom b (answers_of m) limit (resumed limit phase) (counts_in ps)
kept_starts b ss xs w m phase last known ps limit kept = starts_from b (answers_of m) limit phase w xs last known ps kept.live kept.undone kept.stored

-- a run that waits before a start event has no position after it
pub all_below : (phase : Phase) (last : Option Completed) (known : Option ℕ) (ps : Timeline Position) → IsUndone phase last known ps → HasAllBelow phase ps.stored
all_below Idle last known ps undone = tt
all_below (Waiting from point.Setup) last known ps undone = tt
all_below (Waiting from point.Position) last known ps undone = tt
all_below (Waiting from (point.Start k id)) last known ps undone = (undone.below, undone.begun_is.within)
all_below (Declined from point.Setup) last known ps undone = tt
all_below (Declined from point.Position) last known ps undone = tt
all_below (Declined from (point.Start k id)) last known ps undone = (undone.below, undone.begun_is.within)

-- ---- a run that is done, or given up

pub done_stored : (b : Behaviour) (m : Answers) (limit : ℕ) (r : Option Resumed) (old : Timeline ℕ) → limit < 2 ^ 64 → StartsFrom b m limit r old → CanBeStored (positions_after b m limit r old)
done_stored b m limit None old less h = is_done b m limit old less h
done_stored b m limit (Some r) old less h =
    let i = h.0 in
    let same = ap (positions_after b m limit (Some r)) i.positions ∙ after_onwards b m limit r i.old h.1 h.2 (start_within_cut limit r.count i.old r.from i.start i.cut_is h.2) i.within in
    subst CanBeStored (sym same) (is_done b m limit i.old less i.stored)

pub given_up_stored : (b : Behaviour) (m : Answers) (limit : ℕ) (r : Option Resumed) (at : Stood) (old new : Timeline ℕ) → limit < 2 ^ 64 → StartsFrom b m limit r old → HasStored b m limit r old at new → CanBeStored new
given_up_stored b m limit None at old new less h stored = is_given_up b m limit at old new less stored h
given_up_stored b m limit (Some r) at old new less h stored =
    let i = h.0 in
    let there = subst (λ t. HasStored b m limit (Some r) t at new) i.positions stored in
    is_given_up b m limit at i.old new less (stored_onwards b m limit r i.old at new (start_within_cut limit r.count i.old r.from i.start i.cut_is h.2) i.within there) i.stored

-- ---- a run that waits before a start event

-- it is no sooner than where it began, or went on
abbrev pub IsNoSooner : Option Resumed → Option ℕ → ℕ → Type 0
IsNoSooner None from k = starts_within from k
IsNoSooner (Some r) from k = r.count ≤ k

-- those up to an event are all up to a later one
up_to_cut : (s k : ℕ) (old : Timeline ℕ) → s ≤ k → up_to_event (Some k) (cut (Some s) old).stored ≡ (cut (Some s) old).stored
up_to_cut s k old l =
    let stored = left_stored old (up_to_event (Some s) old.stored) in
    ap (up_to_event (Some k)) stored ∙ less_up_to s k old.stored l ∙ sym stored

-- a run up to there begins where this one began
starts_there : (limit k : ℕ) (old : Timeline ℕ) (start : Option ℕ) → start_of limit old.stored ≡ start → starts_within start k → start_of k (cut start old).stored ≡ start
starts_there limit k old None e within = refl
starts_there limit k old (Some s) e within = ap last_count (up_to_cut s k old within) ∙ last_again limit old (Some s) e

pub cut_twice : (start : Option ℕ) (old : Timeline ℕ) → cut start (cut start old) ≡ cut start old
cut_twice None old = refl
cut_twice (Some s) old = cut_again s old

begun_anew : (limit k : ℕ) (old new : Timeline ℕ) (start : Option ℕ) → start_of limit old.stored ≡ start → starts_within start k → CanBeStored old → new ≡ positions_begun old start (suc k - first_behind start) → IsBegunUpTo start k new
begun_anew limit k old new start e within stored is = record {
  old = cut start old;
  stored = is_cut start old stored;
  start = starts_there limit k old start e within;
  cut_is = cut_twice start old;
  within = within;
  positions = is ∙ ap (λ t. behind is_multiple t (numbers_from (first_behind start) (suc k - first_behind start))) (sym (cut_twice start old));
}

later_within : (from : Option ℕ) (j k : ℕ) → starts_within from j → j ≤ k → starts_within from k
later_within None j k within l = tt
later_within (Some s) j k within l = omega (arith, within, l)

begun_later : (from : Option ℕ) (j k : ℕ) (old new : Timeline ℕ) → IsBegunUpTo from j old → j ≤ k → new ≡ behind is_multiple old (numbers_from (suc j) (k - j)) → IsBegunUpTo from k new
begun_later from j k old new i l is = record {
  old = i.old;
  stored = i.stored;
  start = start_within_cut k j i.old from i.start i.cut_is l;
  cut_is = i.cut_is;
  within = later_within from j k i.within l;
  positions = is ∙ ap (λ t. behind is_multiple t (numbers_from (suc j) (k - j))) i.positions ∙ begun_onwards i.old from j k i.within l;
}

-- WHAT IS STORED WHERE IT WAITS
pub begun_there : (b : Behaviour) (m : Answers) (limit : ℕ) (r : Option Resumed) (from : Option ℕ) (k : ℕ) (id : Option ℕ) (old new : Timeline ℕ) → StartsFrom b m limit r old → from ≡ began_at limit r old.stored → IsNoSooner r from k → new ≡ positions_at limit r (point.Start k id) old
    → IsBegunUpTo from k new
begun_there b m limit None from k id old new h began later is =
    begun_anew limit k old new from (sym began) later h (is ∙ ap (λ s. positions_begun old s (suc k - first_behind s)) (sym began))
begun_there b m limit (Some r) from k id old new h began later is =
    subst (λ f. IsBegunUpTo f k new) (sym began) (begun_later r.from r.count k old new h.0 later is)

below_cut : (start : Option ℕ) (k : ℕ) (old : Timeline ℕ) → starts_within start k → Below (suc k) (cut start old).stored
below_cut None k old within = tt
below_cut (Some s) k old within = below_more (suc s) (suc k) (cut (Some s) old).stored (omega (arith, within)) (cut_below s old)

last_number : (start : Option ℕ) (k : ℕ) → starts_within start k → first_behind start + (suc k - first_behind start) ≤ suc k
last_number None k within = omega arith
last_number (Some s) k within = omega (arith, within)

-- none is after that event
pub begun_below : (from : Option ℕ) (k : ℕ) (ps : Timeline Position) → IsBegunUpTo from k (counts_in ps) → AreBelow (suc k) ps.stored
begun_below from k ps i =
    let more : ℕ = suc k - first_behind from in
    of_counts (suc k) ps.stored (subst (λ (t : Timeline ℕ). Below (suc k) t.stored) (sym i.positions)
    (below_behind is_multiple (suc k) (cut from i.old) (numbers_from (first_behind from) more) (below_cut from k i.old i.within) (below_numbers (suc k) (first_behind from) more (last_number from k i.within))))

-- and it may be stored: a run to that limit could be given up there
pub begun_stored : (b : Behaviour) (m : Answers) (from : Option ℕ) (k : ℕ) (t : Timeline ℕ) → k < 2 ^ 64 → CanGoOn b m k → IsBegunUpTo from k t → CanBeStored t
begun_stored b m from k t less going i =
    is_given_up b m k (stood.After k) i.old t less (record { going = going; limited = omega arith; within = subst (λ s. starts_within s k) (sym i.start) i.within; positions = i.positions ∙ ap (λ s. positions_begun i.old s (suc k - first_behind s)) (sym i.start) }) i.stored
