-- What a session keeps where the box that its run waits for is asked for, supplied or declined.
use Rattle.std.proofs.Common.{◌≡◌, ℕ, true, false, Result, Ok, Err, OnOk, OnErr, List, [], ◌∷◌, ◌++◌, Option, Some, None, IsSome, option_map, refl, sym, ap, ◌∙◌, subst, map}
use Rattle.module_api.specs.Behaviour.{Behaviour}
use Rattle.module_api.specs.Laws.{IsLawful}
use Rattle.module_api.specs.Meaning.{Module, IsFresh}
use Rattle.model_data.specs.declared.model.Model.{Model}
use Rattle.model_answers.specs.Answering.{answers_of}
use Rattle.model_questions.specs.Answers.{Answers}
use Rattle.run_semantics.specs.declared.traces.Instance.{Instance}
use Rattle.run_semantics.specs.World.{World}
use Rattle.run_semantics.specs.Run.{Part, Stage, after, part_of, standing, wanted}
use Rattle.checkpoints.specs.Stored.{last_of, Timeline}
use Rattle.kernel_actions.specs.declared.position.Position.{Position}
use Rattle.kernel_actions.specs.Positions.{IsSameBesideModules}
use Rattle.kernel.specs.declared.request.Request.{Request}
use Rattle.kernel_boxes.specs.Seats.{BoxAt, AreBelow, instance_of, module_in}
use Rattle.kernel_boxes.specs.Staying.{is_held}
use Rattle.kernel.specs.Seats.{missing_of, missing_part, request_for, with_seat, AreFirst, IsUnstarted}
use Rattle.kernel.specs.Starts.{wanted_of}
use Rattle.checkpoint_runs.specs.declared.phases.Phase.{Phase}
use Rattle.checkpoint_runs.specs.declared.phases.Phase.TheVariants.{Idle, Waiting, Declined}
use Rattle.checkpoint_runs.specs.declared.phases.Point.{Point}
use Rattle.checkpoint_runs.specs.declared.phases.Point.TheVariants as point
use Rattle.checkpoint_runs.specs.Kept.{lacking_at, IsGood}
use Rattle.checkpoint_runs.specs.Running.{is_back, needed_back, parts_in, wanted_by, wanted_next, with_part, IsFilled, IsPaused}
use Rattle.checkpoint_runs.proofs.Back.{back_wants, kinds_with, lacking_is, last_there, not_held, parts_with}
use Rattle.checkpoint_runs.proofs.Filling.{filled_above, filled_declined, filled_next, filled_wants, some_part, supplied_part}
use Rattle.checkpoint_runs.proofs.Pausing.{paused_above, paused_next, paused_refused}
use Rattle.checkpoint_runs.proofs.Good.{good_last, good_on, grown_beside}
use Rattle.edit_session.specs.Editing.{asked_at_start, declined_at, part_for, supplied_phase, waited_for, with_box, with_wanted, Completed, Editing, IsFor, IsKept, IsLeft, IsUnknown}
use Rattle.edit_session.proofs.Valid.{known_same}

true_false : true ≡ false → ⊥
true_false e = cc

-- the request of that id
request_of : (o : Option Request) (id : ℕ) → option_map (λ (r : Request). r.id) o ≡ Some id → (r : Request) × (o ≡ Some r) × (id ≡ r.id)
request_of o id e = some_part (λ (r : Request). r.id) o id e

-- where an id is asked for there is a request
pub some_wanted : (o : Option Request) (id : ℕ) → option_map (λ (r : Request). r.id) o ≡ Some id → IsSome o
some_wanted None id e = cc
some_wanted (Some r) id e = refl

pub none_wanted : (o : Option Request) → option_map (λ (r : Request). r.id) o ≡ None → o ≡ None
none_wanted None e = refl
none_wanted (Some r) e = cc

requested_id : (w : World) (o : Option Part) → option_map (λ (r : Request). r.id) (option_map (request_for w) o) ≡ option_map (λ (p : Part). p.id) o
requested_id w None = refl
requested_id w (Some p) = refl

-- ---- what is asked for a start

-- of the network: by the world that is set up
asked_at_setup : (b : Behaviour) (m : Answers) (w : World) (xs : List BoxAt) (r : Request) → IsFilled b m w xs → wanted_by m (parts_in xs) ≡ Some r → missing_of w (parts_in xs) ≡ Some r
asked_at_setup b m w xs r filled e = filled_wants b m w xs filled ∙ e

-- of modules that the next event starts: by the world before it
asked_next : (b : Behaviour) (m : Answers) (w : World) (xs : List BoxAt) (k : ℕ) → IsPaused b m w xs k → wanted_of w (wanted m w) (parts_in xs) ≡ wanted_next m (after b m k) (parts_in xs)
asked_next b m w xs k paused = ap (λ (s : Stage). wanted_next m s (parts_in xs)) paused.going

-- ---- for which module

same_point : (f from : Option ℕ) (p at q : Point) → Waiting f p ≡ Waiting from at → at ≡ q → p ≡ q
same_point f from p at q e s = let same : p ≡ at = cc in same ∙ s

not_idle : (from : Option ℕ) (at : Point) → Idle ≡ Waiting from at → ⊥
not_idle from at e = cc

not_declined : (f from : Option ℕ) (p at : Point) → Declined f p ≡ Waiting from at → ⊥
not_declined f from p at e = cc

no_event : (o : Option ℕ) → o ≡ None → IsSome o → ⊥
no_event None e is = cc
no_event (Some k) e is = cc

-- where it waits for the start of its network
waits_filled : (b : Behaviour) (ss xs : List BoxAt) (w : World) (m : Model) (phase : Phase) (from : Option ℕ) (at : Point) (done : Option Completed) (known : Option ℕ) (ps : Timeline Position) → phase ≡ Waiting from at → at ≡ point.Setup
    → IsKept b ss xs w m phase done known ps → IsFilled b (answers_of m) w xs
waits_filled b ss xs w m (Waiting f point.Setup) from at last known ps e p kept = kept.live
waits_filled b ss xs w m (Waiting f point.Position) from at last known ps e p kept = let clash : point.Position ≡ point.Setup = same_point f from point.Position at point.Setup e p in cc
waits_filled b ss xs w m (Waiting f (point.Start k id)) from at last known ps e p kept = let clash : point.Start k id ≡ point.Setup = same_point f from (point.Start k id) at point.Setup e p in cc
waits_filled b ss xs w m Idle from at last known ps e p kept = absurd (not_idle from at e)
waits_filled b ss xs w m (Declined f q) from at last known ps e p kept = absurd (not_declined f from q at e)

pub waits_unstarted : (b : Behaviour) (ss xs : List BoxAt) (w : World) (m : Model) (phase : Phase) (from : Option ℕ) (at : Point) (done : Option Completed) (known : Option ℕ) (ps : Timeline Position) → phase ≡ Waiting from at → at ≡ point.Setup
    → IsKept b ss xs w m phase done known ps → IsUnstarted w
waits_unstarted b ss xs w m phase from at last known ps e p kept = (waits_filled b ss xs w m phase from at last known ps e p kept).unstarted

pub waits_first : (b : Behaviour) (ss xs : List BoxAt) (w : World) (m : Model) (phase : Phase) (from : Option ℕ) (at : Point) (done : Option Completed) (known : Option ℕ) (ps : Timeline Position) → phase ≡ Waiting from at → at ≡ point.Setup
    → IsKept b ss xs w m phase done known ps → AreFirst b w xs
waits_first b ss xs w m phase from at last known ps e p kept = (waits_filled b ss xs w m phase from at last known ps e p kept).first

pub wanted_setup_at : (b : Behaviour) (ss xs : List BoxAt) (w : World) (m : Model) (phase : Phase) (from : Option ℕ) (at : Point) (done : Option Completed) (known : Option ℕ) (ps : Timeline Position) → phase ≡ Waiting from at → at ≡ point.Setup
    → IsKept b ss xs w m phase done known ps → option_map (λ (p : Part). p.id) (missing_part w (parts_in xs)) ≡ option_map (λ (r : Request). r.id) (waited_for b phase m (standing w.modules) (parts_in xs))
wanted_setup_at b ss xs w m (Waiting f point.Setup) from at last known ps e p kept =
    sym (requested_id w (missing_part w (parts_in xs))) ∙ ap (option_map (λ (r : Request). r.id)) (filled_wants b (answers_of m) w xs kept.live)
wanted_setup_at b ss xs w m (Waiting f point.Position) from at last known ps e p kept = let clash : point.Position ≡ point.Setup = same_point f from point.Position at point.Setup e p in cc
wanted_setup_at b ss xs w m (Waiting f (point.Start k id)) from at last known ps e p kept = let clash : point.Start k id ≡ point.Setup = same_point f from (point.Start k id) at point.Setup e p in cc
wanted_setup_at b ss xs w m Idle from at last known ps e p kept = absurd (not_idle from at e)
wanted_setup_at b ss xs w m (Declined f q) from at last known ps e p kept = absurd (not_declined f from q at e)

-- where it waits at a position its id is that of the first module of the last position that has none
wanted_back_id : (b : Behaviour) (ss xs : List BoxAt) (w : World) (m : Model) (from : Option ℕ) (done : Option Completed) (known : Option ℕ) (ps : Timeline Position) → IsKept b ss xs w m (Waiting from point.Position) done known ps
    → lacking_at (last_of ps.stored) (standing w.modules) ≡ option_map (λ (r : Request). r.id) (waited_for b (Waiting from point.Position) m (standing w.modules) (parts_in xs))
wanted_back_id b ss xs w m None last known ps kept = absurd (no_event None refl kept.undone.some)
wanted_back_id b ss xs w m (Some k) last known ps kept =
    let q = last_there k ps.stored kept.undone.last_is in
    let good : IsGood b (answers_of m) w q.0 = good_last b (answers_of m) w ps.stored q.0 kept.good q.1 in
    ap (λ o. lacking_at o (standing w.modules)) q.1
    ∙ lacking_is b (answers_of m) w q.0 (standing w.modules) good
    ∙ ap (λ n. option_map (λ (r : Request). r.id) (needed_back b (answers_of m) n (standing w.modules))) q.2

pub wanted_back_at : (b : Behaviour) (ss xs : List BoxAt) (w : World) (m : Model) (phase : Phase) (from : Option ℕ) (at : Point) (done : Option Completed) (known : Option ℕ) (ps : Timeline Position) → phase ≡ Waiting from at → at ≡ point.Position
    → IsKept b ss xs w m phase done known ps → lacking_at (last_of ps.stored) (standing w.modules) ≡ option_map (λ (r : Request). r.id) (waited_for b phase m (standing w.modules) (parts_in xs))
wanted_back_at b ss xs w m (Waiting f point.Position) from at last known ps e p kept = wanted_back_id b ss xs w m f last known ps kept
wanted_back_at b ss xs w m (Waiting f point.Setup) from at last known ps e p kept = let clash : point.Setup ≡ point.Position = same_point f from point.Setup at point.Position e p in cc
wanted_back_at b ss xs w m (Waiting f (point.Start k id)) from at last known ps e p kept = let clash : point.Start k id ≡ point.Position = same_point f from (point.Start k id) at point.Position e p in cc
wanted_back_at b ss xs w m Idle from at last known ps e p kept = absurd (not_idle from at e)
wanted_back_at b ss xs w m (Declined f q) from at last known ps e p kept = absurd (not_declined f from q at e)

-- where it waits before a start event its id is the one that is asked for
pub wanted_start_at : (b : Behaviour) (ss xs : List BoxAt) (w : World) (m : Model) (phase : Phase) (from : Option ℕ) (at : Point) (k : ℕ) (id : Option ℕ) (done : Option Completed) (known : Option ℕ) (ps : Timeline Position) → phase ≡ Waiting from at → at ≡ point.Start k id
    → IsKept b ss xs w m phase done known ps → asked_at_start phase ≡ option_map (λ (r : Request). r.id) (waited_for b phase m (standing w.modules) (parts_in xs))
wanted_start_at b ss xs w m (Waiting f (point.Start j None)) from at k id last known ps e p kept = refl
wanted_start_at b ss xs w m (Waiting f (point.Start j (Some i))) from at k id last known ps e p kept = sym kept.live.1 ∙ ap (option_map (λ (r : Request). r.id)) (asked_next b (answers_of m) w xs j kept.live.0)
wanted_start_at b ss xs w m (Waiting f point.Setup) from at k id last known ps e p kept = let clash : point.Setup ≡ point.Start k id = same_point f from point.Setup at (point.Start k id) e p in cc
wanted_start_at b ss xs w m (Waiting f point.Position) from at k id last known ps e p kept = let clash : point.Position ≡ point.Start k id = same_point f from point.Position at (point.Start k id) e p in cc
wanted_start_at b ss xs w m Idle from at k id last known ps e p kept = absurd (not_idle from at e)
wanted_start_at b ss xs w m (Declined f q) from at k id last known ps e p kept = absurd (not_declined f from q at e)

-- ---- there is none

-- at a position no kind is unknown
back_known : (b : Behaviour) → IsLawful b → (m : Answers) (k : ℕ) (boxes : List Part) (r : Request) → needed_back b m k boxes ≡ Some r → b.known r.kind ≡ false → ⊥
back_known b law m k boxes r e unknown = true_false (sym (back_wants b law m k boxes r e).0 ∙ unknown)

pub kept_declined : (b : Behaviour) → IsLawful b → (ss xs : List BoxAt) (w : World) (m : Model) (phase now : Phase) (done : Option Completed) (known : Option ℕ) (ps : Timeline Position) (id : ℕ) → IsKept b ss xs w m phase done known ps
    → option_map (λ (r : Request). r.id) (waited_for b phase m (standing w.modules) (parts_in xs)) ≡ Some id → IsUnknown b (waited_for b phase m (standing w.modules) (parts_in xs)) → now ≡ declined_at phase → IsKept b ss xs w m now done known ps
kept_declined b law ss xs w m (Waiting from point.Setup) now last known ps id kept some unknown is =
    let q = request_of (wanted_by (answers_of m) (parts_in xs)) id some in
    rw is (record {
      kinds = kept.kinds;
      live = filled_declined b (answers_of m) w xs q.0 kept.live (asked_at_setup b (answers_of m) w xs q.0 kept.live q.1) (subst (IsUnknown b) q.1 unknown);
      left = kept.left;
      undone = kept.undone;
      asked = kept.asked;
      good = kept.good;
      stored = kept.stored;
    })
kept_declined b law ss xs w m (Waiting None point.Position) now last known ps id kept some unknown is = cc
kept_declined b law ss xs w m (Waiting (Some k) point.Position) now last known ps id kept some unknown is =
    let q = request_of (needed_back b (answers_of m) k (standing w.modules)) id some in
    absurd (back_known b law (answers_of m) k (standing w.modules) q.0 q.1 (subst (IsUnknown b) q.1 unknown))
kept_declined b law ss xs w m (Waiting from (point.Start k None)) now last known ps id kept some unknown is = cc
kept_declined b law ss xs w m (Waiting from (point.Start k (Some i))) now last known ps id kept some unknown is =
    let q = request_of (wanted_next (answers_of m) (after b (answers_of m) k) (parts_in xs)) id some in
    rw is (record {
      kinds = kept.kinds;
      live = (kept.live.0, paused_refused b (answers_of m) w xs q.0 (asked_next b (answers_of m) w xs k kept.live.0 ∙ q.1) (subst (IsUnknown b) q.1 unknown));
      left = kept.left;
      undone = kept.undone;
      asked = kept.asked;
      good = kept.good;
      stored = kept.stored;
    })
kept_declined b law ss xs w m Idle now last known ps id kept some unknown is = cc
kept_declined b law ss xs w m (Declined from at) now last known ps id kept some unknown is = cc

-- ---- a box is supplied for a start

-- it is of a greater id than all that wait
pub supply_above : (b : Behaviour) (ss xs : List BoxAt) (w : World) (m : Model) (phase : Phase) (done : Option Completed) (known : Option ℕ) (ps : Timeline Position) (id : ℕ) → IsKept b ss xs w m phase done known ps → is_back phase ≡ false
    → option_map (λ (r : Request). r.id) (waited_for b phase m (standing w.modules) (parts_in xs)) ≡ Some id → AreBelow id (map instance_of xs)
supply_above b ss xs w m (Waiting from point.Setup) last known ps id kept not some =
    let q = request_of (wanted_by (answers_of m) (parts_in xs)) id some in
    subst (λ i. AreBelow i (map instance_of xs)) (sym q.2) (filled_above b (answers_of m) w xs q.0 kept.live (asked_at_setup b (answers_of m) w xs q.0 kept.live q.1))
supply_above b ss xs w m (Waiting from point.Position) last known ps id kept not some = absurd (true_false not)
supply_above b ss xs w m (Waiting from (point.Start k None)) last known ps id kept not some = cc
supply_above b ss xs w m (Waiting from (point.Start k (Some i))) last known ps id kept not some =
    let q = request_of (wanted_next (answers_of m) (after b (answers_of m) k) (parts_in xs)) id some in
    subst (λ i. AreBelow i (map instance_of xs)) (sym q.2) (paused_above b (answers_of m) w xs q.0 kept.live.0.first (asked_next b (answers_of m) w xs k kept.live.0 ∙ q.1))
supply_above b ss xs w m Idle last known ps id kept not some = cc
supply_above b ss xs w m (Declined from at) last known ps id kept not some = cc

-- one more box
abbrev pub with_last : List BoxAt → ℕ → Module → List BoxAt
with_last xs id box = xs ++ record { id = id; box = box } ∷ []

pub kept_supplied : (b : Behaviour) (ss xs ys : List BoxAt) (w : World) (m : Model) (phase now : Phase) (done : Option Completed) (known : Option ℕ) (ps qs : Timeline Position) (id : ℕ) (box : Module) → IsKept b ss xs w m phase done known ps → is_back phase ≡ false
    → option_map (λ (r : Request). r.id) (waited_for b phase m (standing w.modules) (parts_in xs)) ≡ Some id → IsFor b (waited_for b phase m (standing w.modules) (parts_in xs)) box → ys ≡ with_last xs id box → now ≡ supplied_phase phase → qs ≡ ps
    → IsKept b ss ys w m now done known qs
kept_supplied b ss xs ys w m (Waiting from point.Setup) now last known ps qs id box kept not some for_it more is stay =
    let q = request_of (wanted_by (answers_of m) (parts_in xs)) id some in
    rw (is, stay) (record {
      kinds = kept.kinds;
      live = filled_next b (answers_of m) w xs ys q.0 box kept.live (asked_at_setup b (answers_of m) w xs q.0 kept.live q.1) (subst (λ o. IsFor b o box) q.1 for_it) (more ∙ ap (λ i. with_last xs i box) q.2);
      left = kept.left;
      undone = kept.undone;
      asked = kept.asked;
      good = kept.good;
      stored = kept.stored;
    })
kept_supplied b ss xs ys w m (Waiting from point.Position) now last known ps qs id box kept not some for_it more is stay = absurd (true_false not)
kept_supplied b ss xs ys w m (Waiting from (point.Start k None)) now last known ps qs id box kept not some for_it more is stay = cc
kept_supplied b ss xs ys w m (Waiting from (point.Start k (Some i))) now last known ps qs id box kept not some for_it more is stay =
    let q = request_of (wanted_next (answers_of m) (after b (answers_of m) k) (parts_in xs)) id some in
    rw (is, stay) (record {
      kinds = kept.kinds;
      live = (paused_next b (answers_of m) w xs ys k q.0 box kept.live.0 (asked_next b (answers_of m) w xs k kept.live.0 ∙ q.1) (subst (λ o. IsFor b o box) q.1 for_it) (more ∙ ap (λ i. with_last xs i box) q.2), tt);
      left = kept.left;
      undone = kept.undone;
      asked = kept.asked;
      good = kept.good;
      stored = kept.stored;
    })
kept_supplied b ss xs ys w m Idle now last known ps qs id box kept not some for_it more is stay = cc
kept_supplied b ss xs ys w m (Declined from at) now last known ps qs id box kept not some for_it more is stay = cc

-- what callers see of a session
abbrev pub seen : Model → Option Completed → Phase → List Part → List Part → Option ℕ → Timeline ℕ → Editing
seen m done phase boxes supplied known positions = record { model = m; done = done; phase = phase; boxes = boxes; supplied = supplied; known = known; positions = positions }

-- the last one of those that wait is that of the module that was asked for
parts_asked : (b : Behaviour) (xs ys : List BoxAt) (asked : Option Request) (r : Request) (id : ℕ) (box : Module) → asked ≡ Some r → id ≡ r.id → IsFor b asked box → ys ≡ with_last xs id box → parts_in ys ≡ parts_in xs ++ part_for r ∷ []
parts_asked b xs ys asked r id box is same for_it more =
    let fresh : IsFresh b r.kind box = subst (λ o. IsFor b o box) is for_it in
    let one : ℕ → List ℕ → List Part = λ i kind. parts_in xs ++ record { id = i; kind = kind } ∷ [] in
    supplied_part [] xs ys id box more ∙ ap (λ i. one i box.kind) same ∙ ap (one r.id) fresh.kind

pub seen_supplied : (b : Behaviour) (ss xs ys : List BoxAt) (w : World) (m : Model) (phase now : Phase) (done : Option Completed) (known : Option ℕ) (ps : Timeline Position) (positions : Timeline ℕ) (id : ℕ) (box : Module) → IsKept b ss xs w m phase done known ps → is_back phase ≡ false
    → option_map (λ (r : Request). r.id) (waited_for b phase m (standing w.modules) (parts_in xs)) ≡ Some id → IsFor b (waited_for b phase m (standing w.modules) (parts_in xs)) box → ys ≡ with_last xs id box → now ≡ supplied_phase phase
    → seen m done now (standing w.modules) (parts_in ys) known positions ≡ with_box b (seen m done phase (standing w.modules) (parts_in xs) known positions)
seen_supplied b ss xs ys w m (Waiting from point.Setup) now last known ps positions id box kept not some for_it more is =
    let q = request_of (wanted_by (answers_of m) (parts_in xs)) id some in
    let e : Editing = seen m last (Waiting from point.Setup) (standing w.modules) (parts_in xs) known positions in
    ap (λ p. seen m last p (standing w.modules) (parts_in ys) known positions) is
    ∙ ap (λ boxes. seen m last (Waiting from point.Setup) (standing w.modules) boxes known positions) (parts_asked b xs ys (wanted_by (answers_of m) (parts_in xs)) q.0 id box q.1 q.2 for_it more)
    ∙ sym (ap (λ o. with_wanted o e) q.1)
seen_supplied b ss xs ys w m (Waiting from point.Position) now last known ps positions id box kept not some for_it more is = absurd (true_false not)
seen_supplied b ss xs ys w m (Waiting from (point.Start k None)) now last known ps positions id box kept not some for_it more is = cc
seen_supplied b ss xs ys w m (Waiting from (point.Start k (Some i))) now last known ps positions id box kept not some for_it more is =
    let q = request_of (wanted_next (answers_of m) (after b (answers_of m) k) (parts_in xs)) id some in
    let e : Editing = seen m last (Waiting from (point.Start k (Some i))) (standing w.modules) (parts_in xs) known positions in
    ap (λ p. seen m last p (standing w.modules) (parts_in ys) known positions) is
    ∙ ap (λ boxes. seen m last (Waiting from (point.Start k None)) (standing w.modules) boxes known positions) (parts_asked b xs ys (wanted_next (answers_of m) (after b (answers_of m) k) (parts_in xs)) q.0 id box q.1 q.2 for_it more)
    ∙ sym (ap (λ o. with_wanted o e) q.1)
seen_supplied b ss xs ys w m Idle now last known ps positions id box kept not some for_it more is = cc
seen_supplied b ss xs ys w m (Declined from at) now last known ps positions id box kept not some for_it more is = cc

-- ---- a box is supplied, where a run goes back to a position

-- the world has what those boxes are
abbrev pub IsOf : World → List BoxAt → Type 0
IsOf w ss = w.modules ≡ map instance_of ss

-- its module has none
pub supply_free : (b : Behaviour) → IsLawful b → (ss xs : List BoxAt) (w : World) (m : Model) (phase : Phase) (done : Option Completed) (known : Option ℕ) (ps : Timeline Position) (id : ℕ) → IsKept b ss xs w m phase done known ps → IsOf w ss → is_back phase ≡ true
    → option_map (λ (r : Request). r.id) (waited_for b phase m (standing w.modules) (parts_in xs)) ≡ Some id → module_in id ss ≡ None
supply_free b law ss xs w m (Waiting from point.Setup) last known ps id kept own back some = absurd (true_false (sym back))
supply_free b law ss xs w m (Waiting None point.Position) last known ps id kept own back some = cc
supply_free b law ss xs w m (Waiting (Some k) point.Position) last known ps id kept own back some =
    let q = request_of (needed_back b (answers_of m) k (standing w.modules)) id some in
    let held : is_held q.0.id (parts_in ss) ≡ false = ap (λ (is : List Instance). is_held q.0.id (standing is)) (sym own) ∙ (back_wants b law (answers_of m) k (standing w.modules) q.0 q.1).1 in
    subst (λ i. module_in i ss ≡ None) (sym q.2) (not_held q.0.id ss held)
supply_free b law ss xs w m (Waiting from (point.Start k i)) last known ps id kept own back some = absurd (true_false (sym back))
supply_free b law ss xs w m Idle last known ps id kept own back some = absurd (true_false (sym back))
supply_free b law ss xs w m (Declined from at) last known ps id kept own back some = absurd (true_false (sym back))

-- what is left of no run
left_none : (b : Behaviour) (m : Model) (w : World) (last : Option Completed) → last ≡ None → IsLeft b m w last
left_none b m w last e = subst (IsLeft b m w) (sym e) tt

beside : {X : Type 0} (f : World → X) (u w : World) → ((x : World) → f x ≡ f (record x { modules = [] })) → IsSameBesideModules u w → f u ≡ f w
beside f u w is e = is u ∙ ap f e ∙ sym (is w)

kept_placed : (b : Behaviour) (ss ts xs : List BoxAt) (w u : World) (m : Model) (phase : Phase) (done : Option Completed) (known : Option ℕ) (ps : Timeline Position) (id : ℕ) (box : Module) → IsKept b ss xs w m phase done known ps → is_back phase ≡ true
    → option_map (λ (r : Request). r.id) (waited_for b phase m (standing w.modules) (parts_in xs)) ≡ Some id → IsFor b (waited_for b phase m (standing w.modules) (parts_in xs)) box → IsSameBesideModules u w → ts ≡ with_seat (record { id = id; box = box }) ss
    → IsKept b ts xs u m phase done known ps
kept_placed b ss ts xs w u m (Waiting from point.Setup) last known ps id box kept back some for_it same more = absurd (true_false (sym back))
kept_placed b ss ts xs w u m (Waiting None point.Position) last known ps id box kept back some for_it same more = cc
kept_placed b ss ts xs w u m (Waiting (Some k) point.Position) last known ps id box kept back some for_it same more =
    let q = request_of (needed_back b (answers_of m) k (standing w.modules)) id some in
    let fresh = subst (λ o. IsFor b o box) q.1 for_it in
    rw more (record {
      kinds = kinds_with b (record { id = id; box = box }) ss fresh.of_kind kept.kinds;
      live = kept.live;
      left = left_none b m u last kept.undone.none;
      undone = kept.undone;
      asked = known_same b (answers_of m) w u known (beside (λ (x : World). x.records) u w (λ x. refl) same) (beside (λ (x : World). x.questions) u w (λ x. refl) same) kept.asked;
      good = good_on b (answers_of m) w u ps.stored (grown_beside u w same) kept.good;
      stored = kept.stored;
    })
kept_placed b ss ts xs w u m (Waiting from (point.Start k i)) last known ps id box kept back some for_it same more = absurd (true_false (sym back))
kept_placed b ss ts xs w u m Idle last known ps id box kept back some for_it same more = absurd (true_false (sym back))
kept_placed b ss ts xs w u m (Declined from at) last known ps id box kept back some for_it same more = absurd (true_false (sym back))

-- and what callers see of it
pub seen_placed : (b : Behaviour) (ss ts xs : List BoxAt) (w u : World) (m : Model) (phase : Phase) (done : Option Completed) (known : Option ℕ) (ps : Timeline Position) (positions : Timeline ℕ) (id : ℕ) (box : Module) → IsKept b ss xs w m phase done known ps → is_back phase ≡ true → IsOf w ss → IsOf u ts
    → option_map (λ (r : Request). r.id) (waited_for b phase m (standing w.modules) (parts_in xs)) ≡ Some id → IsFor b (waited_for b phase m (standing w.modules) (parts_in xs)) box → ts ≡ with_seat (record { id = id; box = box }) ss
    → seen m done phase (standing u.modules) (parts_in xs) known positions ≡ with_box b (seen m done phase (standing w.modules) (parts_in xs) known positions)
seen_placed b ss ts xs w u m (Waiting from point.Setup) last known ps positions id box kept back own now some for_it more = absurd (true_false (sym back))
seen_placed b ss ts xs w u m (Waiting None point.Position) last known ps positions id box kept back own now some for_it more = cc
seen_placed b ss ts xs w u m (Waiting (Some k) point.Position) last known ps positions id box kept back own now some for_it more =
    let q = request_of (needed_back b (answers_of m) k (standing w.modules)) id some in
    let fresh = subst (λ o. IsFor b o box) q.1 for_it in
    let s : BoxAt = record { id = id; box = box } in
    let part : ℕ → List ℕ → Part = λ i kind. record { id = i; kind = kind } in
    let one : part_of (instance_of s) ≡ part_for q.0 = ap (λ i. part i box.kind) q.2 ∙ ap (part q.0.id) fresh.kind in
    let e : Editing = seen m last (Waiting (Some k) point.Position) (standing w.modules) (parts_in xs) known positions in
    let boxes : standing u.modules ≡ with_part (part_for q.0) (standing w.modules) =
    ap standing now
    ∙ ap parts_in more
    ∙ parts_with s ss
    ∙ ap (λ p. with_part p (parts_in ss)) one
    ∙ ap (λ (is : List Instance). with_part (part_for q.0) (standing is)) (sym own) in
    ap (λ ps. seen m last (Waiting (Some k) point.Position) ps (parts_in xs) known positions) boxes
    ∙ sym (ap (λ o. with_wanted o e) q.1)
seen_placed b ss ts xs w u m (Waiting from (point.Start k i)) last known ps positions id box kept back own now some for_it more = absurd (true_false (sym back))
seen_placed b ss ts xs w u m Idle last known ps positions id box kept back own now some for_it more = absurd (true_false (sym back))
seen_placed b ss ts xs w u m (Declined from at) last known ps positions id box kept back own now some for_it more = absurd (true_false (sym back))

-- ---- whether it was supplied or not

same_world : (u w : World) → IsSameBesideModules u w → u.modules ≡ w.modules → u ≡ w
same_world u w beside modules = ap (λ (x : World). record x { modules = u.modules }) beside ∙ ap (λ (is : List Instance). record w { modules = is }) modules

pub stays_placed : {A E : Type 0} (result : Result A E) (b : Behaviour) (ss ts xs : List BoxAt) (w u : World) (m : Model) (phase : Phase) (done : Option Completed) (known : Option ℕ) (ps : Timeline Position) (id : ℕ) (box : Module) → IsKept b ss xs w m phase done known ps → is_back phase ≡ true → IsOf w ss → IsOf u ts
    → option_map (λ (r : Request). r.id) (waited_for b phase m (standing w.modules) (parts_in xs)) ≡ Some id → IsFor b (waited_for b phase m (standing w.modules) (parts_in xs)) box → IsSameBesideModules u w → OnOk result (ts ≡ with_seat (record { id = id; box = box }) ss) → OnErr result (ts ≡ ss)
    → IsKept b ts xs u m phase done known ps
stays_placed (Ok x) b ss ts xs w u m phase last known ps id box kept back own now some for_it same more not = kept_placed b ss ts xs w u m phase last known ps id box kept back some for_it same more
stays_placed (Err e) b ss ts xs w u m phase last known ps id box kept back own now some for_it same more not =
    subst (λ zs. IsKept b zs xs u m phase last known ps) (sym not) (subst (λ x. IsKept b ss xs x m phase last known ps) (sym (same_world u w same (now ∙ ap (map instance_of) not ∙ sym own))) kept)
