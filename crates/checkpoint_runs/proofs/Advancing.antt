-- How far a run is: where it waits, or that it is done.
use Rattle.std.proofs.Common.{◌≡◌, ℕ, zero, suc, ◌-◌, ◌≤◌, ◌<◌, ◌==◌, ◌&&◌, nat_le, nat_lt, Bool, true, false, List, [], Option, Some, None, option_map, refl, sym, ap, ◌∙◌, arith, subst, if◌then◌else◌}
use Rattle.std.proofs.lemmas.Bool.Decides.{nat_tests}
use Rattle.checkpoints.specs.Stored.{counts_in, is_multiple, AreBelow, IsBegun, Timeline}
use Rattle.kernel_actions.specs.declared.position.Position.{Position}
use Rattle.kernel_boxes.specs.Seats.{BoxAt, Members}
use Rattle.kernel.specs.Kernels.{world_in}
use Rattle.kernel.specs.declared.request.Request.{Request}
use Rattle.module_api.specs.Behaviour.{Behaviour}
use Rattle.model_questions.specs.Answers.{Answers}
use Rattle.run_semantics.specs.declared.outcome.Outcome.{Outcome}
use Rattle.run_semantics.specs.Run.{Part, Running, Over, after, prepared, run_to, standing, start, world_at}
use Rattle.run_semantics.specs.World.{World}
use Rattle.run_semantics.proofs.Ends.{count_over, run_over}
use Rattle.checkpoint_runs.specs.declared.phases.AtSetup.{AtSetup}
use Rattle.checkpoint_runs.specs.declared.phases.Phase.{Phase}
use Rattle.checkpoint_runs.specs.declared.phases.Phase.TheVariants.{Idle, Waiting, Declined}
use Rattle.checkpoint_runs.specs.declared.phases.Point.TheVariants.{Setup, Position as AtPosition, Start}
use Rattle.checkpoint_runs.specs.declared.phases.Resumed.{Resumed}
use Rattle.checkpoint_runs.specs.declared.running.Runner.{Runner}
use Rattle.checkpoint_runs.specs.declared.phases.RunStatus.{RunStatus}
use Rattle.checkpoint_runs.specs.declared.phases.RunStatus.TheVariants as status
use Rattle.checkpoint_runs.specs.declared.phases.Stood.TheVariants as stood
use Rattle.checkpoint_runs.specs.Kept.{supplied_in, waiting_in, CanGoOnWith, HasAllBelow, HasGood, HasRunOn, HasStarted, IsGoing}
use Rattle.checkpoint_runs.specs.Positions.{behind, cut, first_behind, numbers_from, positions_begun, start_of, starts_within, HasLeft}
use Rattle.checkpoint_runs.specs.Running.{at_setup, first_wait, kept_at_setup, kept_back, left_of_start, needed_back, needed_by_setup, parts_in, progress_of, refused_if, resumed, resumed_if, supplied_left, wait_anew, wait_before, wait_first, wait_of, wanted_at_setup, whole_run, Advances, IsEnded, IsFilled, IsHeldUp, IsLive, IsLiveAtSetup, IsPaused, IsWaiting}
use Rattle.checkpoint_runs.proofs.Counting.{fault_left, left_after_start}
use Rattle.checkpoint_runs.proofs.Ends.{none_less}
use Rattle.checkpoint_runs.proofs.Filling.{over_waits, start_is_fault, whole_over}
use Rattle.checkpoint_runs.proofs.Leaving.{going_from, known_started, known_through, none_left, setup_left}
use Rattle.checkpoint_runs.proofs.Onwards.{within_more}
use Rattle.checkpoint_runs.proofs.Whole.{whole_count}

-- ---- what holds wherever it waits before an event

asks_for : (o : Option Request) (r : Request) → o ≡ Some r → option_map (λ (x : Request). x.id) o ≡ Some r.id
asks_for o r e = ap (option_map (λ (x : Request). x.id)) e

-- its modules are those of the run
stand_there : (b : Behaviour) (m : Answers) (w : World) (k : ℕ) → Running w ≡ after b m k → standing w.modules ≡ standing (world_at (after b m k)).modules
stand_there b m w k e = ap (λ s. standing (world_at s).modules) e

abbrev empty_parts : List Part
empty_parts = []

empty_either : (c : Bool) → (if c then empty_parts else []) ≡ []
empty_either true = refl
empty_either false = refl

less_one : (k s : ℕ) → suc k - suc s ≡ k - s
less_one k s = omega arith

-- ---- a run that begins with setup

anew_is : (b : Behaviour) (m : Answers) (limit : ℕ) (at : AtSetup) (stored : List ℕ) (boxes supplied : List Part) (o : Option ℕ) → start_of limit stored ≡ o → wait_of b m limit at None stored boxes supplied ≡ wait_anew b m limit at o boxes supplied
anew_is b m limit at stored boxes supplied o e = ap (λ x. wait_anew b m limit at x boxes supplied) e

setup_first : (b : Behaviour) (m : Answers) (limit : ℕ) (at : AtSetup) (stored : List ℕ) (boxes supplied : List Part) (wanted : Option Request) → start_of limit stored ≡ None → wanted_at_setup at m (kept_at_setup at supplied) ≡ wanted
    → wait_of b m limit at None stored boxes supplied ≡ wait_first None Setup wanted (first_wait b m 0 limit [])
setup_first b m limit at stored boxes supplied wanted e w = anew_is b m limit at stored boxes supplied None e ∙ ap (λ o. wait_first None Setup o (first_wait b m 0 limit [])) w

-- it waits for its start
pub setup_waits : (b : Behaviour) (m : Answers) (limit : ℕ) (at : AtSetup) (boxes supplied : List Part) (old new : Timeline ℕ) (w : World) (waiting : List BoxAt) (request : Request) → start_of limit old.stored ≡ None → wanted_at_setup at m (kept_at_setup at supplied) ≡ Some request
    → IsFilled b m w waiting → parts_in waiting ≡ kept_at_setup at supplied → new ≡ cut None old → IsWaiting b m limit at None boxes supplied old w waiting new (record { from = None; at = Setup; request = request })
setup_waits b m limit at boxes supplied old new w waiting request e wanted filled kept positions = record {
  is = setup_first b m limit at old.stored boxes supplied (Some request) e wanted;
  live = filled;
  boxes_are = ap standing filled.none;
  supplied_are = kept;
  positions = positions;
  began = sym e;
}

-- it can't begin
pub setup_over : (b : Behaviour) (m : Answers) (limit : ℕ) (at : AtSetup) (boxes supplied : List Part) (old new : Timeline Position) (w : World) (waiting : List BoxAt) (outcome : Outcome) → start_of limit (counts_in old).stored ≡ None → wanted_at_setup at m (kept_at_setup at supplied) ≡ None
    → Over w outcome ≡ start b m → parts_in waiting ≡ left_of_start b (needed_by_setup (prepared m)) → IsBegun old → new ≡ old → IsEnded b m limit at None boxes supplied (counts_in old) w waiting (counts_in new) (record { start = None; outcome = outcome })
setup_over b m limit at boxes supplied old new w waiting outcome e wanted over left begun_is same =
    let few = count_over b m w outcome zero over in
    record {
      none = anew_is b m limit at (counts_in old).stored boxes supplied None e ∙ over_waits b m limit w outcome (wanted_at_setup at m (kept_at_setup at supplied)) wanted over;
      whole = whole_over b m limit w outcome over;
      left = setup_left b m limit w waiting outcome over left;
      began = sym e;
      within = tt;
      positions = fault_left b m limit w outcome old new begun_is same (run_over b m w outcome zero limit (omega arith) over) (omega (arith, few)) (start_is_fault b m w outcome over);
    }

-- ---- a run that begins at a position waits there

pub back_waits : (b : Behaviour) (m : Answers) (limit s : ℕ) (at : AtSetup) (boxes supplied : List Part) (old new : Timeline ℕ) (w : World) (waiting : List BoxAt) (request : Request) → start_of limit old.stored ≡ Some s → needed_back b m s (kept_back b m s boxes) ≡ Some request
    → standing w.modules ≡ kept_back b m s boxes → waiting ≡ [] → new ≡ cut (Some s) old → IsWaiting b m limit at None boxes supplied old w waiting new (record { from = Some s; at = AtPosition; request = request })
back_waits b m limit s at boxes supplied old new w waiting request e wanted kept none positions = record {
  is = anew_is b m limit at old.stored boxes supplied (Some s) e ∙ ap (λ o. wait_first (Some s) AtPosition o (first_wait b m s (limit - s) [])) wanted;
  live = none;
  boxes_are = kept;
  supplied_are = ap parts_in none;
  positions = positions ∙ ap (λ o. cut o old) (sym e);
  began = sym e;
}

undeclined : (r : Resumed) (limit : ℕ) → (r.declined && nat_lt r.count limit) ≡ false → r.count < limit → r.declined ≡ false
undeclined r limit e l = by r.declined e
  where
    less : nat_lt r.count limit ≡ true
    less = grind (arith, nat_tests, l)

    by : (c : Bool) → (c && nat_lt r.count limit) ≡ false → c ≡ false
    by true e = let no : true ≡ false = sym less ∙ e in cc
    by false e = refl

-- one whose box was not declined, or that is at its limit
pub not_declined : (d c : Bool) → d ≡ false → (d && c) ≡ false
not_declined d c e = ap (λ (x : Bool). x && c) e

pub at_the_limit : (d : Bool) (k limit : ℕ) → limit ≤ k → (d && nat_lt k limit) ≡ false
at_the_limit true k limit l = grind (arith, nat_tests, l)
at_the_limit false k limit l = refl

none_onwards : (c : Bool) (o : Option (ℕ × Request)) (from : Option ℕ) → o ≡ None → (if c then None else option_map (wait_before from) o) ≡ None
none_onwards true o from e = refl
none_onwards false o from e = ap (option_map (wait_before from)) e

-- ---- a run that was started, or goes on

module _ {C X : Type 0} {Y : X → Type 0} where
  -- it was started
  pub started_progress : (b : Behaviour) (m : Answers) (members : Members X Y) (limit : ℕ) (at : AtSetup) (boxes supplied : List Part) (old : Timeline ℕ) (after : Runner C X Y) (s : RunStatus Outcome) → start_of limit old.stored ≡ None → wanted_at_setup at m (kept_at_setup at supplied) ≡ None
      → HasStarted b m members limit old after s → Advances b m limit at None boxes supplied old (world_in members after.kernel) (waiting_in members after) (counts_in after.positions) (progress_of None (world_in members after.kernel).count s)
  started_progress b m members limit at boxes supplied old after (status.Waits request) e wanted h =
      let w : World = world_in members after.kernel in
      record {
        is = setup_first b m limit at old.stored boxes supplied None e wanted
            ∙ ap (λ n. option_map (wait_before None) (first_wait b m 0 n [])) (sym (none_less limit))
            ∙ ap (option_map (wait_before None)) h.held.wait;
        live = (h.held.paused, asks_for _ request h.held.asks);
        boxes_are = stand_there b m w w.count h.held.paused.going;
        supplied_are = h.held.kept ∙ empty_either (0 == w.count);
        positions = h.counts ∙ ap (λ o. positions_begun old o (suc w.count - first_behind o)) (sym e);
        began = sym e;
      }
  started_progress b m members limit at boxes supplied old after (status.Done outcome) e wanted h = record {
    none = setup_first b m limit at old.stored boxes supplied None e wanted ∙ ap (option_map (wait_before None)) h.none;
    whole = h.whole;
    left = none_left b m limit (waiting_in members after) h.empty (known_started b m limit h.known h.none);
    began = sym e;
    within = tt;
    positions = h.left;
  }

  -- ---- a run that begins at a position

  pub back_progress : (b : Behaviour) (m : Answers) (members : Members X Y) (limit s : ℕ) (at : AtSetup) (boxes supplied : List Part) (old : Timeline ℕ) (before after : Runner C X Y) (r : RunStatus Outcome) → start_of limit old.stored ≡ Some s → needed_back b m s (kept_back b m s boxes) ≡ None
      → IsGoing b m members limit before → (world_in members before.kernel).count ≡ s → supplied_in members before ≡ [] → counts_in before.positions ≡ cut (Some s) old → HasRunOn b m members limit before after r
      → Advances b m limit at None boxes supplied old (world_in members after.kernel) (waiting_in members after) (counts_in after.positions) (progress_of (Some s) (world_in members after.kernel).count r)
  back_progress b m members limit s at boxes supplied old before after (status.Waits request) e wanted going count empty c h =
      let w : World = world_in members after.kernel in
      let held : IsHeldUp b m limit s [] w (waiting_in members after) request =
      subst (λ n. IsHeldUp b m limit n [] w (waiting_in members after) request) count
      (subst (λ (ps : List Part). IsHeldUp b m limit (world_in members before.kernel).count ps w (waiting_in members after) request) empty h.held) in
      let counts : counts_in after.positions ≡ behind is_multiple (counts_in before.positions) (numbers_from (suc s) (w.count - s)) =
      subst (λ n. counts_in after.positions ≡ behind is_multiple (counts_in before.positions) (numbers_from (suc n) (w.count - n))) count h.counts in
      record {
        is = anew_is b m limit at old.stored boxes supplied (Some s) e
            ∙ ap (λ o. wait_first (Some s) AtPosition o (first_wait b m s (limit - s) [])) wanted
            ∙ ap (option_map (wait_before (Some s))) held.wait;
        live = (held.paused, asks_for _ request held.asks);
        boxes_are = stand_there b m w w.count held.paused.going;
        supplied_are = held.kept ∙ empty_either (s == w.count);
        positions = counts ∙ ap (λ t. behind is_multiple t (numbers_from (suc s) (w.count - s))) c
            ∙ ap (λ n. behind is_multiple (cut (Some s) old) (numbers_from (suc s) n)) (sym (less_one w.count s))
            ∙ ap (λ o. positions_begun old o (suc w.count - first_behind o)) (sym e);
        began = sym e;
      }
  back_progress b m members limit s at boxes supplied old before after (status.Done outcome) e wanted going count empty c h =
      let w : World = world_in members after.kernel in
      let left : HasLeft s (counts_in before.positions) (counts_in after.positions) (run_to b m limit) = subst (λ n. HasLeft n (counts_in before.positions) (counts_in after.positions) (run_to b m limit)) count h.left in
      let none : first_wait b m s (limit - s) [] ≡ None =
      subst (λ n. first_wait b m n (limit - n) [] ≡ None) count
      (subst (λ (ps : List Part). first_wait b m (world_in members before.kernel).count (limit - (world_in members before.kernel).count) ps ≡ None) empty h.none) in
      let many = whole_count b m limit w outcome h.whole in
      record {
        none = anew_is b m limit at old.stored boxes supplied (Some s) e
            ∙ ap (λ o. wait_first (Some s) AtPosition o (first_wait b m s (limit - s) [])) wanted
            ∙ ap (option_map (wait_before (Some s))) none;
        whole = h.whole;
        left = none_left b m limit (waiting_in members after) h.empty
            (known_through b m limit (limit - s) s (world_in members before.kernel) [] (let l = going.within in omega (arith, l, count)) (going_from b m s (world_in members before.kernel) count going.going) tt none);
        began = sym e;
        within = let g = left.grew in omega (arith, g, many);
        positions = left_after_start b m limit s old (counts_in before.positions) (counts_in after.positions) e c left;
      }

  -- one that goes on where it waited
  pub onwards_progress : (b : Behaviour) (m : Answers) (members : Members X Y) (limit : ℕ) (r : Resumed) (at : AtSetup) (boxes : List Part) (before after : Runner C X Y) (s : RunStatus Outcome) → (r.declined && nat_lt r.count limit) ≡ false
      → r.count ≤ limit → IsPaused b m (world_in members before.kernel) (waiting_in members before) r.count → starts_within r.from r.count → HasRunOn b m members limit before after s
      → Advances b m limit at (Some r) boxes (supplied_in members before) (counts_in before.positions) (world_in members after.kernel) (waiting_in members after) (counts_in after.positions) (progress_of r.from (world_in members after.kernel).count s)
  onwards_progress b m members limit r at boxes before after (status.Waits request) going up_to paused began h =
      let w : World = world_in members after.kernel in
      let count : (world_in members before.kernel).count ≡ r.count = paused.count in
      let supplied : List Part = supplied_in members before in
      let held : IsHeldUp b m limit r.count supplied w (waiting_in members after) request = subst (λ n. IsHeldUp b m limit n supplied w (waiting_in members after) request) count h.held in
      let off : r.declined ≡ false = undeclined r limit going (let g = held.grew in let l = held.within in omega (arith, g, l)) in
      record {
        is = ap (λ (c : Bool). if c then None else option_map (wait_before r.from) (first_wait b m r.count (limit - r.count) supplied)) off ∙ ap (option_map (wait_before r.from)) held.wait;
        live = (held.paused, asks_for _ request held.asks);
        boxes_are = stand_there b m w w.count held.paused.going;
        supplied_are = held.kept;
        positions = subst (λ n. counts_in after.positions ≡ behind is_multiple (counts_in before.positions) (numbers_from (suc n) (w.count - n))) count h.counts;
        began = refl;
      }
  onwards_progress b m members limit r at boxes before after (status.Done outcome) going up_to paused began h =
      let w : World = world_in members after.kernel in
      let count : (world_in members before.kernel).count ≡ r.count = paused.count in
      let supplied : List Part = supplied_in members before in
      let left : HasLeft r.count (counts_in before.positions) (counts_in after.positions) (run_to b m limit) = subst (λ n. HasLeft n (counts_in before.positions) (counts_in after.positions) (run_to b m limit)) count h.left in
      let none : first_wait b m r.count (limit - r.count) supplied ≡ None = subst (λ n. first_wait b m n (limit - n) supplied ≡ None) count h.none in
      let many = whole_count b m limit w outcome h.whole in
      record {
        none = none_onwards r.declined (first_wait b m r.count (limit - r.count) supplied) r.from none;
        whole = h.whole;
        left = none_left b m limit (waiting_in members after) h.empty
            (known_through b m limit (limit - r.count) r.count (world_in members before.kernel) (waiting_in members before) (omega (arith, up_to)) paused.going paused.first none);
        began = refl;
        within = within_more r.from r.count w.count began (let g = left.grew in omega (arith, g, many));
        positions = left.counts;
      }

  -- from there it goes on
  pub goes_there : (b : Behaviour) (m : Answers) (members : Members X Y) (limit : ℕ) (at : Resumed) (r : Runner C X Y) → CanGoOnWith b m members limit at r → HasGood b m members r → IsGoing b m members limit (record r { stood = stood.After at.count })
  goes_there b m members limit at r h good =
      let w : World = world_in members r.kernel in
      record {
        going = subst (λ n. Running w ≡ after b m n) (sym h.paused.count) h.paused.going;
        within = let e = h.paused.count in let l = h.within in omega (arith, e, l);
        room = h.paused.room;
        good = good;
        below = subst (λ n. AreBelow (suc n) r.positions.stored) (sym h.paused.count) h.below;
        stood = ap stood.After (sym h.paused.count);
      }

-- its box was declined
pub refused_ended : (b : Behaviour) (m : Answers) (limit : ℕ) (r : Resumed) (at : AtSetup) (boxes supplied : List Part) (old new : Timeline ℕ) (w : World) (waiting : List BoxAt) (outcome : Outcome) → r.declined ≡ true → starts_within r.from r.count → whole_run b m limit w outcome → HasLeft r.count old new (run_to b m limit) → parts_in waiting ≡ supplied_left b m limit
    → IsEnded b m limit at (Some r) boxes supplied old w waiting new (record { start = r.from; outcome = outcome })
refused_ended b m limit r at boxes supplied old new w waiting outcome declined began whole left waits =
    let many = whole_count b m limit w outcome whole in
    record {
      none = ap (λ (c : Bool). if c then None else option_map (wait_before r.from) (first_wait b m r.count (limit - r.count) supplied)) declined;
      whole = whole;
      left = waits;
      began = refl;
      within = within_more r.from r.count w.count began (let g = left.grew in omega (arith, g, many));
      positions = left.counts;
    }

-- ---- which of them it is

-- what is known where a run goes on
pub record GoesOnAt (b : Behaviour) (m : Answers) (w : World) (waiting : List BoxAt) (ps : List Position) (limit : ℕ) (r : Resumed) : Type 0 where
  pub paused : IsPaused b m w waiting r.count
  pub refused : refused_if b m w waiting r.declined
  pub within : r.count ≤ limit
  pub below : AreBelow (suc r.count) ps
  pub began : starts_within r.from r.count

resumed_so : (b : Behaviour) (m : Answers) (w : World) (waiting : List BoxAt) (ps : List Position) (limit : ℕ) (q r : Resumed) → resumed_if (nat_le q.count limit) q ≡ Some r → IsPaused b m w waiting q.count → refused_if b m w waiting q.declined → AreBelow (suc q.count) ps → starts_within q.from q.count → GoesOnAt b m w waiting ps limit r
resumed_so b m w waiting ps limit q r e paused refused below began = by (nat_le q.count limit) refl e
  where
    least : nat_le q.count limit ≡ true → q.count ≤ limit
    least t = grind (arith, nat_tests)

    by : (c : Bool) → nat_le q.count limit ≡ c → resumed_if c q ≡ Some r → GoesOnAt b m w waiting ps limit r
    by true t e = let same : q ≡ r = cc in subst (GoesOnAt b m w waiting ps limit) same (record { paused = paused; refused = refused; within = least t; below = below; began = began })
    by false t e = cc

pub resumed_at : (b : Behaviour) (m : Answers) (w : World) (waiting : List BoxAt) (ps : List Position) (limit : ℕ) (phase : Phase) (r : Resumed) → resumed limit phase ≡ Some r → IsLive b m w waiting phase → HasAllBelow phase ps → GoesOnAt b m w waiting ps limit r
resumed_at b m w waiting ps limit Idle r e live below = cc
resumed_at b m w waiting ps limit (Waiting from Setup) r e live below = cc
resumed_at b m w waiting ps limit (Waiting from AtPosition) r e live below = cc
resumed_at b m w waiting ps limit (Waiting from (Start k id)) r e live below = resumed_so b m w waiting ps limit (record { from = from; count = k; declined = false }) r e live.0 tt below.0 below.1
resumed_at b m w waiting ps limit (Declined from Setup) r e live below = cc
resumed_at b m w waiting ps limit (Declined from AtPosition) r e live below = cc
resumed_at b m w waiting ps limit (Declined from (Start k id)) r e live below = resumed_so b m w waiting ps limit (record { from = from; count = k; declined = true }) r e live.0 live.1 below.0 below.1

-- what is known where it is set up
pub live_at_setup : (b : Behaviour) (m : Answers) (w : World) (waiting : List BoxAt) (phase : Phase) → IsLive b m w waiting phase → IsLiveAtSetup b m w waiting (at_setup phase)
live_at_setup b m w waiting Idle live = tt
live_at_setup b m w waiting (Waiting from Setup) live = live
live_at_setup b m w waiting (Waiting from AtPosition) live = tt
live_at_setup b m w waiting (Waiting from (Start k id)) live = tt
live_at_setup b m w waiting (Declined from Setup) live = live
live_at_setup b m w waiting (Declined from AtPosition) live = tt
live_at_setup b m w waiting (Declined from (Start k id)) live = tt
