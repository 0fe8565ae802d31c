-- What a run leaves that waits.
use Rattle.std.proofs.Common.{◌≡◌, ℕ, ◌<◌, ◌≤◌, ◌^◌, List, [], ◌∷◌, Option, Some, None, IsSome, refl, sym, ap, ◌∙◌, subst, lt_of_le_of_lt}
use Rattle.module_api.specs.Behaviour.{Behaviour}
use Rattle.model_data.specs.declared.model.Model.{Model}
use Rattle.model_answers.specs.Answering.{answers_of}
use Rattle.run_semantics.specs.World.{World}
use Rattle.run_semantics.specs.Run.{Part, standing}
use Rattle.checkpoints.specs.Stored.{begun, counts_in, counts_of, last_of, AreRising, IsBegun, Timeline}
use Rattle.kernel_actions.specs.declared.position.Position.{Position}
use Rattle.kernel.specs.declared.request.Request.{Request}
use Rattle.kernel_boxes.specs.Seats.{BoxAt, AreOfKinds}
use Rattle.checkpoint_runs.specs.declared.phases.AtSetup.{AtSetup}
use Rattle.checkpoint_runs.specs.declared.phases.Phase.{Phase}
use Rattle.checkpoint_runs.specs.declared.phases.Phase.TheVariants.{Waiting}
use Rattle.checkpoint_runs.specs.declared.phases.Point.TheVariants as point
use Rattle.checkpoint_runs.specs.declared.phases.Resumed.{Resumed}
use Rattle.checkpoint_runs.specs.declared.phases.Wait.{Wait}
use Rattle.checkpoint_runs.specs.Kept.{cut_to_last, AreGood}
use Rattle.checkpoint_runs.specs.Positions.{cut, last_count, start_of, CanBeStored, is_cut}
use Rattle.checkpoint_runs.specs.Running.{at_setup, began_at, known_at, parts_in, resumed, IsFilled, IsWaiting}
use Rattle.checkpoint_runs.proofs.Counting.{last_again}
use Rattle.edit_session.specs.Editing.{wanted_of, waits_at, Editing, IsKept, WaitsFor}
use Rattle.edit_session.proofs.Boxes.{seen}
use Rattle.edit_session.proofs.GivenUp.{cut_back, known_there}
use Rattle.edit_session.proofs.Leaving.{begun_below, begun_stored, begun_there, cut_twice, within_limit, IsWithin, StartsFrom}
use Rattle.edit_session.proofs.Waits.{asked_there, found, IsMissing}

-- ---- with setup

none_counted : (ps : List Position) → counts_of ps ≡ [] → ps ≡ []
none_counted [] e = refl
none_counted (p ∷ ps) e = cc

abbrev timeline : ℕ → ℕ → List Position → Timeline Position
timeline first interval stored = record { first = first; interval = interval; stored = stored }

begun_counted : (t : Timeline Position) (i : ℕ) → counts_in t ≡ begun i → IsBegun t
begun_counted t i e =
    let first : t.first ≡ i = ap (λ (u : Timeline ℕ). u.first) e in
    let interval : t.interval ≡ i = ap (λ (u : Timeline ℕ). u.interval) e in
    let none : t.stored ≡ [] = none_counted t.stored (ap (λ (u : Timeline ℕ). u.stored) e) in
    ap (λ (n : ℕ). timeline t.first n t.stored) (interval ∙ sym first) ∙ ap (timeline t.first t.first) none

-- nothing was cut
none_cut : (w u : World) (ps : Timeline Position) → IsBegun ps → u ≡ cut_to_last (last_of ps.stored) w → u ≡ w
none_cut w u ps none e = e ∙ ap (λ (t : Timeline Position). cut_to_last (last_of t.stored) w) none

none_last : (ps : Timeline Position) → IsBegun ps → last_count (counts_of ps.stored) ≡ None
none_last ps none = ap (λ (t : Timeline Position). last_count (counts_of t.stored)) none

at_setup_kept : (b : Behaviour) (ss xs : List BoxAt) (w u : World) (m : Model) (limit : ℕ) (at : AtSetup) (r : Option Resumed) (boxes supplied : List Part) (old : Timeline ℕ) (ps : Timeline Position) (from : Option ℕ) (request : Request) → AreOfKinds b ss → CanBeStored old
    → IsWaiting b (answers_of m) limit at r boxes supplied old w xs (counts_in ps) (record { from = from; at = point.Setup; request = request }) → AreGood b (answers_of m) w ps.stored → AreRising ps.stored → u ≡ cut_to_last (last_of ps.stored) w
    → IsKept b ss xs u m (Waiting from point.Setup) None (last_count (counts_of ps.stored)) ps
at_setup_kept b ss xs w u m limit at r boxes supplied old ps from request kinds stored h good rising e =
    let none : IsBegun ps = begun_counted ps old.first h.positions in
    let back = cut_back b (answers_of m) w u ps good rising e in
    record {
      kinds = kinds;
      live = subst (λ (x : World). IsFilled b (answers_of m) x xs) (sym (none_cut w u ps none e)) h.live;
      left = tt;
      undone = (refl, none_last ps none, none);
      asked = back.asked;
      good = back.good;
      stored = subst CanBeStored (sym h.positions) (is_cut None old stored);
    }

-- ---- at a position

some_event : (b : Behaviour) (m : Model) (limit : ℕ) (at : AtSetup) (r : Option Resumed) (boxes supplied : List Part) (from : Option ℕ) (request : Request) → IsMissing b (answers_of m) limit at r boxes supplied from point.Position request → IsSome from
some_event b m limit at r boxes supplied None request h = absurd h
some_event b m limit at r boxes supplied (Some k) request h = refl

-- it began at the last position up to its limit
began_back : (b : Behaviour) (m : Model) (limit : ℕ) (at : AtSetup) (r : Option Resumed) (boxes supplied : List Part) (stored : List ℕ) (from : Option ℕ) (request : Request) → IsMissing b (answers_of m) limit at r boxes supplied from point.Position request → from ≡ began_at limit r stored
    → from ≡ start_of limit stored
began_back b m limit at r boxes supplied stored None request h e = absurd h
began_back b m limit at r boxes supplied stored (Some k) request h e = e ∙ ap (λ q. began_at limit q stored) h.0

-- which is the last one still
pub last_back : (b : Behaviour) (m : Model) (limit : ℕ) (at : AtSetup) (r : Option Resumed) (boxes supplied : List Part) (old : Timeline ℕ) (w : World) (xs : List BoxAt) (ps : Timeline Position) (from : Option ℕ) (request : Request) → IsWithin limit r
    → IsWaiting b (answers_of m) limit at r boxes supplied old w xs (counts_in ps) (record { from = from; at = point.Position; request = request }) → last_count (counts_of ps.stored) ≡ from
last_back b m limit at r boxes supplied old w xs ps from request within h =
    let missing = found b (answers_of m) limit at r old.stored boxes supplied (record { from = from; at = point.Position; request = request }) within h.is in
    ap (λ (t : Timeline ℕ). last_count t.stored) h.positions ∙ last_again limit old (start_of limit old.stored) refl ∙ sym (began_back b m limit at r boxes supplied old.stored from request missing h.began)

at_position_kept : (b : Behaviour) (ss xs : List BoxAt) (w u : World) (m : Model) (limit : ℕ) (at : AtSetup) (r : Option Resumed) (boxes supplied : List Part) (old : Timeline ℕ) (ps : Timeline Position) (from : Option ℕ) (request : Request) → IsWithin limit r → AreOfKinds b ss → CanBeStored old
    → IsWaiting b (answers_of m) limit at r boxes supplied old w xs (counts_in ps) (record { from = from; at = point.Position; request = request }) → AreGood b (answers_of m) w ps.stored → AreRising ps.stored → u ≡ cut_to_last (last_of ps.stored) w
    → IsKept b ss xs u m (Waiting from point.Position) None (last_count (counts_of ps.stored)) ps
at_position_kept b ss xs w u m limit at r boxes supplied old ps from request within kinds stored h good rising e =
    let start : Option ℕ = start_of limit old.stored in
    let missing = found b (answers_of m) limit at r old.stored boxes supplied (record { from = from; at = point.Position; request = request }) within h.is in
    let last = last_back b m limit at r boxes supplied old w xs ps from request within h in
    let back = cut_back b (answers_of m) w u ps good rising e in
    record {
      kinds = kinds;
      live = h.live;
      left = tt;
      undone = record {
        none = refl;
        some = some_event b m limit at r boxes supplied from request missing;
        known_is = last;
        last_is = last;
        cut_is = ap (λ f. cut f (counts_in ps)) (began_back b m limit at r boxes supplied old.stored from request missing h.began) ∙ ap (cut start) h.positions ∙ cut_twice start old ∙ sym h.positions;
      };
      asked = back.asked;
      good = back.good;
      stored = subst CanBeStored (sym h.positions) (is_cut start old stored);
    }

-- ---- what is kept

pub kept_at_setup : (b : Behaviour) (ss ts xs ys : List BoxAt) (w u : World) (m : Model) (limit : ℕ) (at : AtSetup) (r : Option Resumed) (boxes supplied : List Part) (old : Timeline ℕ) (ps qs : Timeline Position) (from known : Option ℕ) (request : Request) → AreOfKinds b ss → CanBeStored old
    → IsWaiting b (answers_of m) limit at r boxes supplied old w xs (counts_in ps) (record { from = from; at = point.Setup; request = request }) → AreGood b (answers_of m) w ps.stored → AreRising ps.stored → u ≡ cut_to_last (last_of ps.stored) w
    → ts ≡ ss → ys ≡ xs → qs ≡ ps → known ≡ last_count (counts_of ps.stored) → IsKept b ts ys u m (Waiting from point.Setup) None known qs
kept_at_setup b ss ts xs ys w u m limit at r boxes supplied old ps qs from known request kinds stored h good rising e t y q k = rw (t, y, q, k) (at_setup_kept b ss xs w u m limit at r boxes supplied old ps from request kinds stored h good rising e)

pub kept_at_position : (b : Behaviour) (ss ts xs ys : List BoxAt) (w u : World) (m : Model) (limit : ℕ) (at : AtSetup) (r : Option Resumed) (boxes supplied : List Part) (old : Timeline ℕ) (ps qs : Timeline Position) (from known : Option ℕ) (request : Request) → IsWithin limit r → AreOfKinds b ss → CanBeStored old
    → IsWaiting b (answers_of m) limit at r boxes supplied old w xs (counts_in ps) (record { from = from; at = point.Position; request = request }) → AreGood b (answers_of m) w ps.stored → AreRising ps.stored → u ≡ cut_to_last (last_of ps.stored) w
    → ts ≡ ss → ys ≡ xs → qs ≡ ps → known ≡ last_count (counts_of ps.stored) → IsKept b ts ys u m (Waiting from point.Position) None known qs
kept_at_position b ss ts xs ys w u m limit at r boxes supplied old ps qs from known request within kinds stored h good rising e t y q k = rw (t, y, q, k) (at_position_kept b ss xs w u m limit at r boxes supplied old ps from request within kinds stored h good rising e)

-- before a start event
pub kept_at_start : (b : Behaviour) (ss xs : List BoxAt) (w : World) (m : Model) (limit : ℕ) (at : AtSetup) (r : Option Resumed) (boxes supplied : List Part) (old : Timeline ℕ) (ps : Timeline Position) (from : Option ℕ) (k : ℕ) (id : Option ℕ) (request : Request) → limit < 2 ^ 64 → AreOfKinds b ss
    → StartsFrom b (answers_of m) limit r old → IsWaiting b (answers_of m) limit at r boxes supplied old w xs (counts_in ps) (record { from = from; at = point.Start k id; request = request }) → AreGood b (answers_of m) w ps.stored → IsKept b ss xs w m (Waiting from (point.Start k id)) None (Some k) ps
kept_at_start b ss xs w m limit at r boxes supplied old ps from k id request less kinds starts h good =
    let missing = found b (answers_of m) limit at r old.stored boxes supplied (record { from = from; at = point.Start k id; request = request }) (within_limit b (answers_of m) limit r old starts) h.is in
    let begun_is = begun_there b (answers_of m) limit r from k id old (counts_in ps) starts h.began missing.1 h.positions in
    let going = h.live.0.going in
    let within : k ≤ limit = missing.2 in
    record {
      kinds = kinds;
      live = h.live;
      left = tt;
      undone = record { none = refl; known_is = refl; below = begun_below from k ps begun_is; begun_is = begun_is };
      asked = known_there b (answers_of m) w k going;
      good = good;
      stored = begun_stored b (answers_of m) from k (counts_in ps) (lt_of_le_of_lt within less) (w, going) begun_is;
    }

-- ---- what callers see

pub cut_modules : (last : Option Position) (w : World) → (cut_to_last last w).modules ≡ w.modules
cut_modules None w = refl
cut_modules (Some p) w = refl

pub setup_known : (b : Behaviour) (m : Model) (limit : ℕ) (at : AtSetup) (r : Option Resumed) (boxes supplied : List Part) (old : Timeline ℕ) (w : World) (xs : List BoxAt) (ps : Timeline Position) (from : Option ℕ) (request : Request)
    → IsWaiting b (answers_of m) limit at r boxes supplied old w xs (counts_in ps) (record { from = from; at = point.Setup; request = request }) → last_count (counts_of ps.stored) ≡ None
setup_known b m limit at r boxes supplied old w xs ps from request h = none_last ps (begun_counted ps old.first h.positions)

seen_waiting : (b : Behaviour) (before : Editing) (limit : ℕ) (wait : Wait) (w u : World) (xs ys : List BoxAt) (ps qs : Timeline Position) (known : Option ℕ)
    → IsWaiting b (answers_of before.model) limit (at_setup before.phase) (resumed limit before.phase) before.boxes before.supplied before.positions w xs (counts_in ps) wait → u.modules ≡ w.modules → ys ≡ xs → qs ≡ ps → known ≡ known_at wait.from wait.at
    → seen before.model None (Waiting wait.from wait.at) (standing u.modules) (parts_in ys) known (counts_in qs) ≡ waits_at b before limit wait
seen_waiting b before limit wait w u xs ys ps qs known h same y q k =
    let phase : Phase = Waiting wait.from wait.at in
    let after : Editing = waits_at b before limit wait in
    ap (λ (boxes : List Part). seen before.model None phase boxes (parts_in ys) known (counts_in qs)) (ap standing same ∙ h.boxes_are)
    ∙ ap (λ (supplied : List Part). seen before.model None phase after.boxes supplied known (counts_in qs)) (ap parts_in y ∙ h.supplied_are)
    ∙ ap (λ (last : Option ℕ). seen before.model None phase after.boxes after.supplied last (counts_in qs)) k
    ∙ ap (λ (t : Timeline ℕ). seen before.model None phase after.boxes after.supplied after.known t) (ap counts_in q ∙ h.positions)

-- WHAT A RUN LEAVES THAT WAITS
pub waits_for : (b : Behaviour) (before : Editing) (limit : ℕ) (wait : Wait) (w u : World) (xs ys : List BoxAt) (ps qs : Timeline Position) (known : Option ℕ) → IsWithin limit (resumed limit before.phase)
    → IsWaiting b (answers_of before.model) limit (at_setup before.phase) (resumed limit before.phase) before.boxes before.supplied before.positions w xs (counts_in ps) wait → u.modules ≡ w.modules → ys ≡ xs → qs ≡ ps → known ≡ known_at wait.from wait.at
    → WaitsFor b before limit wait.request (seen before.model None (Waiting wait.from wait.at) (standing u.modules) (parts_in ys) known (counts_in qs))
waits_for b before limit wait w u xs ys ps qs known within h same y q k =
    let m = answers_of before.model in
    let at : AtSetup = at_setup before.phase in
    let r : Option Resumed = resumed limit before.phase in
    let waits = seen_waiting b before limit wait w u xs ys ps qs known h same y q k in
    let missing = found b m limit at r before.positions.stored before.boxes before.supplied wait within h.is in
    record {
      wait = wait;
      is = h.is;
      wanted = refl;
      waits = waits;
      asks = ap (wanted_of b) waits ∙ asked_there b before.model limit at r before.boxes before.supplied wait.from wait.at wait.request missing;
    }
