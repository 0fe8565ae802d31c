-- What is left to be done, from one turn to the next.
use Rattle.std.proofs.Common.{◌≡◌, ℕ, suc, ◌+◌, ◌-◌, ◌*◌, ◌<◌, ◌≤◌, ◌^◌, ◌==◌, ◌||◌, nat_lt, bytes_eq, Bool, true, false, cond, List, [], ◌∷◌, ◌++◌, Option, Some, None, IsSome, Result, Ok, Err, OnOk, OnErr, option_map, arith, refl, sym, ap, ◌∙◌, subst, eq-eqb, eqb-true}
use Rattle.std.proofs.lemmas.Bool.{le-leb}
use Rattle.std.proofs.lemmas.Bool.Decides.{nat_tests}
use Rattle.std.proofs.lemmas.Slice.Eq.{bytes_eq-Decides}
use Rattle.std.specs.List.{filter}
use Rattle.module_api.specs.Behaviour.{Behaviour}
use Rattle.model_data.specs.declared.model.Model.{Model}
use Rattle.model_answers.specs.Answering.{answers_of}
use Rattle.model_questions.specs.Answers.{Answers}
use Rattle.run_semantics.specs.Perform.{Flow, On, Stopped, Broken}
use Rattle.run_semantics.specs.Run.{Over, Part, Running, Stage, after as reached, prepared, standing, wanted, world_at}
use Rattle.run_semantics.specs.World.{World}
use Rattle.kernel.specs.declared.request.Request.{Request}
use Rattle.kernel.specs.Seats.{needs, request_for}
use Rattle.kernel_boxes.specs.Seats.{BoxAt}
use Rattle.kernel_boxes.specs.Staying.{first_without, is_held}
use Rattle.checkpoints.specs.Stored.{Timeline}
use Rattle.edit_session.specs.Editing.{Editing, declined_at, part_for, wait_in, waited_for, waits_at, wanted_of, with_box, with_wanted, WaitsFor}
use Rattle.checkpoint_runs.specs.Positions.{cut, start_of, starts_within}
use Rattle.checkpoint_runs.specs.Running.{at_setup, boxes_at, is_one_of, kept_at_setup, kept_back, positions_at, resumed, supplied_at, supplied_before, wanted_after, wanted_back, wanted_next, with_part, IsLive}
use Rattle.checkpoint_runs.proofs.Back.{kept_again, start_again}
use Rattle.checkpoint_runs.specs.declared.phases.AtSetup.{AtSetup}
use Rattle.checkpoint_runs.specs.declared.phases.AtSetup.TheVariants.{Anew, Filling, Refused}
use Rattle.checkpoint_runs.specs.declared.phases.Phase.{Phase}
use Rattle.checkpoint_runs.specs.declared.phases.Phase.TheVariants.{Idle, Waiting, Declined}
use Rattle.checkpoint_runs.specs.declared.phases.Point.{Point}
use Rattle.checkpoint_runs.specs.declared.phases.Point.TheVariants as point
use Rattle.checkpoint_runs.specs.declared.phases.Resumed.{Resumed}
use Rattle.checkpoint_runs.specs.declared.phases.Wait.{Wait}
use Rattle.edit_session.specs.declared.session.NotWanted.{NotWanted}
use Rattle.desk_server.proofs.Boxes.{few_back, few_boxes, few_next}
use Rattle.desk_server.proofs.Places.{IsAsking, IsThere, is_there, limited_resumed}
use Rattle.desk_server.specs.Boxes.{lacking, lacking_after, lacking_back, lacking_next, left_anew, left_at_setup, left_of, left_onwards, most_boxes, most_turns, turns_from}
use Rattle.desk_server.specs.Serving.{left_in_run, WaitsAt}

-- ---- a run that waits

-- it would begin there again, or goes on from there
waits_where : (b : Behaviour) (m : Answers) (limit : ℕ) (at : AtSetup) (r : Option Resumed) (from : Option ℕ) (there : Point) (old : Timeline ℕ) → IsThere b m limit at r (start_of limit old.stored) from there
    → WaitsAt limit (positions_at limit r there old).stored (Waiting from there)
waits_where b m limit at None from point.Setup old is = refl
waits_where b m limit at (Some r) from point.Setup old is = absurd is
waits_where b m limit at None from point.Position old is = (is.0, is.2, start_again limit old ∙ is.1)
waits_where b m limit at (Some r) from point.Position old is = absurd is
waits_where b m limit at None from (point.Start k id) old is = is.1.limited
waits_where b m limit at (Some r) from (point.Start k id) old is = is.1.limited

-- where it waits
waits_there_is : (b : Behaviour) (before : Editing) (limit : ℕ) (wait : Wait) → wait_in b before limit ≡ Some wait
    → IsThere b (answers_of before.model) limit (at_setup before.phase) (resumed limit before.phase) (start_of limit before.positions.stored) wait.from wait.at
waits_there_is b before limit wait is =
    is_there b (answers_of before.model) limit (at_setup before.phase) (resumed limit before.phase) before.positions.stored before.boxes before.supplied wait (limited_resumed limit before.phase) is

pub waits_there : (b : Behaviour) (before after : Editing) (limit : ℕ) (request : Request) → WaitsFor b before limit request after → WaitsAt limit after.positions.stored after.phase
waits_there b before after limit request w =
    subst (λ (e : Editing). WaitsAt limit e.positions.stored e.phase) (sym w.waits)
    (waits_where b (answers_of before.model) limit (at_setup before.phase) (resumed limit before.phase) w.wait.from w.wait.at before.positions (waits_there_is b before limit w.wait w.is))

-- it hears that there is no box
pub heard : (before after declined : Editing) (w : Option Request) (request : Request) (r : Result Unit NotWanted)
    → OnOk r (IsSome w × (after ≡ declined)) → OnErr r ((w ≡ None) × (after ≡ before)) → w ≡ Some request → after ≡ declined
heard before after declined w request (Ok u) ok err waits = ok.1
heard before after declined w request (Err e) ok err waits = absurd cc

-- ---- boxes that are missing

either_true : (s t : Bool) → t ≡ true → (s || t) ≡ true
either_true true t e = refl
either_true false t e = e

-- of those that pass a test, each is still there with one more
held_more : (f : Part → Bool) (id : ℕ) (q : Part) (boxes : List Part) → is_held id (filter f boxes) ≡ true → is_held id (filter f (with_part q boxes)) ≡ true
held_more f id q [] e = cc
held_more f id q (p ∷ boxes) e = by (nat_lt q.id p.id) (held_more f id q boxes)
  where
    front : (t : Bool) → is_held id (cond t (q ∷ filter f (p ∷ boxes)) (filter f (p ∷ boxes))) ≡ true
    front true = either_true (q.id == id) (is_held id (filter f (p ∷ boxes))) e
    front false = e

    one : (t : Bool) → (t || is_held id (filter f boxes)) ≡ true → (is_held id (filter f boxes) ≡ true → is_held id (filter f (with_part q boxes)) ≡ true) → (t || is_held id (filter f (with_part q boxes))) ≡ true
    one true e later = refl
    one false e later = later e

    under : (t : Bool) → is_held id (cond t (p ∷ filter f boxes) (filter f boxes)) ≡ true → (is_held id (filter f boxes) ≡ true → is_held id (filter f (with_part q boxes)) ≡ true)
        → is_held id (cond t (p ∷ filter f (with_part q boxes)) (filter f (with_part q boxes))) ≡ true
    under true e later = one (p.id == id) e later
    under false e later = later e

    by : (t : Bool) → (is_held id (filter f boxes) ≡ true → is_held id (filter f (with_part q boxes)) ≡ true) → is_held id (filter f (cond t (q ∷ p ∷ boxes) (p ∷ with_part q boxes))) ≡ true
    by true later = front (f q)
    by false later = under (f p) e later

-- and so is that one, where it passes
held_one : (f : Part → Bool) (q : Part) (boxes : List Part) → f q ≡ true → is_held q.id (filter f (with_part q boxes)) ≡ true
held_one f q [] e = alone (f q) e
  where
    alone : (t : Bool) → t ≡ true → is_held q.id (cond t (q ∷ []) []) ≡ true
    alone true e = ap (λ t. t || false) (eq-eqb q.id q.id refl)
    alone false e = cc
held_one f q (p ∷ boxes) e = by (nat_lt q.id p.id) (held_one f q boxes e)
  where
    one : (t : Bool) → t ≡ true → is_held q.id (cond t (q ∷ filter f (p ∷ boxes)) (filter f (p ∷ boxes))) ≡ true
    one true e = ap (λ t. t || is_held q.id (filter f (p ∷ boxes))) (eq-eqb q.id q.id refl)
    one false e = cc

    front : is_held q.id (filter f (q ∷ p ∷ boxes)) ≡ true
    front = one (f q) e

    under : (t : Bool) → is_held q.id (filter f (with_part q boxes)) ≡ true → is_held q.id (cond t (p ∷ filter f (with_part q boxes)) (filter f (with_part q boxes))) ≡ true
    under true later = either_true (p.id == q.id) (is_held q.id (filter f (with_part q boxes))) later
    under false later = later

    by : (t : Bool) → is_held q.id (filter f (with_part q boxes)) ≡ true → is_held q.id (filter f (cond t (q ∷ p ∷ boxes) (p ∷ with_part q boxes))) ≡ true
    by true later = front
    by false later = under (f p) later

-- those that pass are among all
held_all : (f : Part → Bool) (id : ℕ) (boxes : List Part) → is_held id (filter f boxes) ≡ true → is_held id boxes ≡ true
held_all f id [] e = e
held_all f id (p ∷ boxes) e = by (f p) e (held_all f id boxes)
  where
    one : (t : Bool) → (t || is_held id (filter f boxes)) ≡ true → (is_held id (filter f boxes) ≡ true → is_held id boxes ≡ true) → (t || is_held id boxes) ≡ true
    one true e later = refl
    one false e later = later e

    by : (t : Bool) → is_held id (cond t (p ∷ filter f boxes) (filter f boxes)) ≡ true → (is_held id (filter f boxes) ≡ true → is_held id boxes ≡ true) → ((p.id == id) || is_held id boxes) ≡ true
    by true e later = one (p.id == id) e later
    by false e later = either_true (p.id == id) (is_held id boxes) (later e)

-- the modules that have one of these boxes have one of those
abbrev AreHeldBy : List Part → List Part → Type 0
AreHeldBy old new = (id : ℕ) → is_held id old ≡ true → is_held id new ≡ true

-- with more boxes no more are lacking
lacking_more : (old new ps : List Part) → AreHeldBy old new → lacking new ps ≤ lacking old ps
lacking_more old new [] h = omega arith
lacking_more old new (p ∷ ps) h = by (is_held p.id old) (is_held p.id new) (h p.id) (lacking_more old new ps h)
  where
    by : (t u : Bool) → (t ≡ true → u ≡ true) → lacking new ps ≤ lacking old ps → cond u (lacking new ps) (suc (lacking new ps)) ≤ cond t (lacking old ps) (suc (lacking old ps))
    by true true h l = l
    by true false h l = let e : false ≡ true = h refl in cc
    by false true h l = omega (arith, l)
    by false false h l = omega (arith, l)

-- with that of one that has none less are
lacking_less : (boxes old new ps : List Part) (p : Part) → AreHeldBy old boxes → AreHeldBy old new → first_without boxes ps ≡ Some p → is_held p.id new ≡ true → lacking new ps < lacking old ps
lacking_less boxes old new [] p all more e held = cc
lacking_less boxes old new (x ∷ ps) p all more e held = by (is_held x.id boxes) refl e (λ f. lacking_less boxes old new ps p all more f held)
  where
    less : (t u : Bool) → (t ≡ true → u ≡ true) → lacking new ps < lacking old ps → cond u (lacking new ps) (suc (lacking new ps)) < cond t (lacking old ps) (suc (lacking old ps))
    less true true h l = l
    less true false h l = let e : false ≡ true = h refl in cc
    less false true h l = omega (arith, l)
    less false false h l = omega (arith, l)

    first : (t : Bool) → (t ≡ true → false ≡ true) → lacking new ps < cond t (lacking old ps) (suc (lacking old ps))
    first true h = let e : false ≡ true = h refl in cc
    first false h = omega (arith, lacking_more old new ps more)

    by : (t : Bool) → is_held x.id boxes ≡ t → cond t (first_without boxes ps) (Some x) ≡ Some p → (first_without boxes ps ≡ Some p → lacking new ps < lacking old ps)
        → cond (is_held x.id new) (lacking new ps) (suc (lacking new ps)) < cond (is_held x.id old) (lacking old ps) (suc (lacking old ps))
    by true is e later = less (is_held x.id old) (is_held x.id new) (more x.id) (later e)
    by false is e later =
        let same : x ≡ p = cc in
        let there : is_held x.id new ≡ true = ap (λ (y : Part). is_held y.id new) same ∙ held in
        rw there (first (is_held x.id old) (λ h. sym is ∙ all x.id h))

-- the module that has none is among them
one_first : (boxes ps : List Part) (p : Part) → first_without boxes ps ≡ Some p → (is_one_of ps (record { id = p.id; kind = p.kind }) ≡ true) × (is_held p.id boxes ≡ false)
one_first boxes [] p e = cc
one_first boxes (x ∷ ps) p e = by (is_held x.id boxes) refl e (one_first boxes ps p)
  where
    one : Part
    one = record { id = p.id; kind = p.kind }

    other : (u : Bool) → (x.id == p.id) ≡ u → is_held x.id boxes ≡ true → is_held p.id boxes ≡ false → is_one_of ps one ≡ true → cond u (bytes_eq x.kind p.kind) (is_one_of ps one) ≡ true
    other true u held free later = let e : true ≡ false = sym held ∙ ap (λ n. is_held n boxes) (eqb-true x.id p.id u) ∙ free in cc
    other false u held free later = later

    by : (t : Bool) → is_held x.id boxes ≡ t → cond t (first_without boxes ps) (Some x) ≡ Some p → (first_without boxes ps ≡ Some p → (is_one_of ps one ≡ true) × (is_held p.id boxes ≡ false))
        → (cond (x.id == p.id) (bytes_eq x.kind p.kind) (is_one_of ps one) ≡ true) × (is_held p.id boxes ≡ false)
    by true t e later = let h = later e in (other (x.id == p.id) refl t h.1 h.0, h.1)
    by false t e later =
        let same : x ≡ p = cc in
        let id : (x.id == p.id) ≡ true = eq-eqb x.id p.id (ap (λ (y : Part). y.id) same) in
        let kind : bytes_eq x.kind p.kind ≡ true = (bytes_eq-Decides x.kind p.kind).1 (ap (λ (y : Part). y.kind) same) in
        (ap (λ u. cond u (bytes_eq x.kind p.kind) (is_one_of ps one)) id ∙ kind, sym (ap (λ (y : Part). is_held y.id boxes) same) ∙ t)

-- one more box behind the others
held_behind : (id : ℕ) (q : Part) (boxes : List Part) → is_held id boxes ≡ true → is_held id (boxes ++ q ∷ []) ≡ true
held_behind id q [] e = cc
held_behind id q (p ∷ boxes) e = by (p.id == id) e (held_behind id q boxes)
  where
    by : (t : Bool) → (t || is_held id boxes) ≡ true → (is_held id boxes ≡ true → is_held id (boxes ++ q ∷ []) ≡ true) → (t || is_held id (boxes ++ q ∷ [])) ≡ true
    by true e later = refl
    by false e later = later e

held_last : (q : Part) (boxes : List Part) → is_held q.id (boxes ++ q ∷ []) ≡ true
held_last q [] = ap (λ t. t || false) (eq-eqb q.id q.id refl)
held_last q (p ∷ boxes) = either_true (p.id == q.id) (is_held q.id (boxes ++ q ∷ [])) (held_last q boxes)

-- what is wanted is wanted for the first that has none
wanted_first : (w : World) (o : Option Part) (request : Request) → option_map (request_for w) o ≡ Some request → (p : Part) × (o ≡ Some p) × (p ≡ part_for request)
wanted_first w None request e = cc
wanted_first w (Some p) request e = (p, refl, ap (λ (o : Option Request). part_or p o) e)
  where
    part_or : Part → Option Request → Part
    part_or other None = other
    part_or other (Some r) = part_for r

-- with the box that is wanted less are lacking
request_less : (w : World) (supplied ps : List Part) (request : Request) → option_map (request_for w) (first_without supplied ps) ≡ Some request → lacking (supplied ++ part_for request ∷ []) ps < lacking supplied ps
request_less w supplied ps request e =
    let f = wanted_first w (first_without supplied ps) request e in
    let q : Part = part_for request in
    lacking_less supplied supplied (supplied ++ q ∷ []) ps q (λ id h. h) (λ id h. held_behind id q supplied h) (f.1 ∙ ap (λ (p : Part). Some p) f.2) (held_last q supplied)

setup_less : (flow : Flow) (supplied : List Part) (request : Request) → wanted_after flow supplied ≡ Some request → lacking_after flow (supplied ++ part_for request ∷ []) < lacking_after flow supplied
setup_less (On w) supplied request e = request_less w supplied (needs w) request e
setup_less (Stopped w) supplied request e = cc
setup_less (Broken w path f) supplied request e = cc

next_less : (m : Answers) (stage : Stage) (supplied : List Part) (request : Request) → wanted_next m stage supplied ≡ Some request → lacking_next m stage (supplied ++ part_for request ∷ []) < lacking_next m stage supplied
next_less m (Running w) supplied request e = request_less w supplied (wanted m w) request e
next_less m (Over w outcome) supplied request e = cc

-- the same of those that stay at a position
back_less : (w : World) (boxes : List Part) (request : Request) → wanted_back w boxes ≡ Some request
    → lacking (filter (is_one_of (standing w.modules)) (with_part (part_for request) boxes)) (standing w.modules) < lacking (filter (is_one_of (standing w.modules)) boxes) (standing w.modules)
back_less w boxes request e =
    let ps : List Part = standing w.modules in
    let f : Part → Bool = is_one_of ps in
    let q : Part = part_for request in
    let first = wanted_first w (first_without boxes ps) request e in
    let is : first_without boxes ps ≡ Some q = first.1 ∙ ap (λ (p : Part). Some p) first.2 in
    lacking_less boxes (filter f boxes) (filter f (with_part q boxes)) ps q (λ id h. held_all f id boxes h) (λ id h. held_more f id q boxes h) is
    (held_one f q boxes (one_first boxes ps q is).0)

-- ---- what is left

few_at_setup : (m : Model) (at : AtSetup) (supplied : List Part) → left_at_setup m at supplied ≤ most_boxes + 1
few_at_setup m Anew supplied = omega (arith, few_boxes m [])
few_at_setup m Filling supplied = omega (arith, few_boxes m supplied)
few_at_setup m Refused supplied = omega arith

few_turns : (limit event : ℕ) → limit < 2 ^ 64 → turns_from limit event ≤ 2 ^ 64 * (most_boxes + 1)
few_turns limit event less = omega (arith, less)

few_onwards : (b : Behaviour) (m : Model) (limit : ℕ) (r : Resumed) (supplied : List Part) → limit < 2 ^ 64 → left_onwards b m limit r supplied ≤ most_turns
few_onwards b m limit r supplied less = by r.declined
  where
    by : (t : Bool) → cond t 0 (lacking_next (answers_of m) (reached b (answers_of m) r.count) supplied + 1 + turns_from limit (suc r.count)) ≤ most_turns
    by true = omega arith
    by false = omega (arith, few_next b (answers_of m) r.count supplied, few_turns limit (suc r.count) less)

left_small : (b : Behaviour) (m : Model) (limit : ℕ) (at : AtSetup) (r : Option Resumed) (start : Option ℕ) (stored : List ℕ) (boxes supplied : List Part) → start_of limit stored ≡ start → limit < 2 ^ 64 → left_of b m limit at r stored boxes supplied ≤ most_turns
left_small b m limit at (Some r) start stored boxes supplied is less = few_onwards b m limit r supplied less
left_small b m limit at None None stored boxes supplied is less =
    subst (λ (o : Option ℕ). left_anew b m limit at o boxes supplied ≤ most_turns) (sym is) (omega (arith, few_at_setup m at supplied, few_turns limit 0 less))
left_small b m limit at None (Some event) stored boxes supplied is less =
    subst (λ (o : Option ℕ). left_anew b m limit at o boxes supplied ≤ most_turns) (sym is) (omega (arith, few_back b m event (kept_back b (answers_of m) event boxes), few_turns limit event less))

-- no run has more to do
pub few_left : (b : Behaviour) (limit : ℕ) (e : Editing) → limit < 2 ^ 64 → left_in_run b limit e ≤ most_turns
few_left b limit e less = left_small b e.model limit (at_setup e.phase) (resumed limit e.phase) (start_of limit e.positions.stored) e.positions.stored e.boxes e.supplied refl less

-- ---- it waits: no more is left than before

-- for the events from that one on more turns are left than for those after it, and for its boxes
enough : (limit k lacks : ℕ) → k < limit → lacks ≤ most_boxes → lacks + 1 + turns_from limit (suc k) ≤ turns_from limit k
enough limit k lacks less few = omega (arith, less, few)

later_less : (limit j k : ℕ) → j ≤ k → turns_from limit k ≤ turns_from limit j
later_less limit j k l = omega (arith, l)

waits_setup : (b : Behaviour) (m : Model) (limit : ℕ) (at : AtSetup) (start : Option ℕ) (boxes supplied : List Part) → start ≡ None → IsAsking at
    → left_at_setup m Filling (kept_at_setup at supplied) + turns_from limit 0 ≤ left_anew b m limit at start boxes supplied
waits_setup b m limit Anew start boxes supplied is asks = rw is (omega arith)
waits_setup b m limit Filling start boxes supplied is asks = rw is (omega arith)
waits_setup b m limit Refused start boxes supplied is asks = absurd asks

-- it waits before an event, and began with setup, or at a position
waits_anew : (b : Behaviour) (m : Model) (limit k : ℕ) (at : AtSetup) (start : Option ℕ) (boxes supplied : List Part) → starts_within start k → turns_from limit k ≤ left_anew b m limit at start boxes supplied
waits_anew b m limit k at None boxes supplied within = omega (arith, later_less limit 0 k (omega arith))
waits_anew b m limit k at (Some event) boxes supplied within = omega (arith, later_less limit event k within)

apart : (j k : ℕ) → j ≤ k → (j == k) ≡ false → j < k
apart j k l e = grind (arith, nat_tests, l, e)

-- before an event after that from which it went on, or before the same
waits_onwards : (b : Behaviour) (m : Model) (limit k : ℕ) (r : Resumed) (supplied : List Part) → r.declined ≡ false → r.count ≤ k → k < limit
    → lacking_next (answers_of m) (reached b (answers_of m) k) (supplied_before (Some r) k supplied) + 1 + turns_from limit (suc k) ≤ left_onwards b m limit r supplied
waits_onwards b m limit k r supplied told grew less = rw told (by (r.count == k) refl)
  where
    kept : List Part → ℕ
    kept boxes = lacking_next (answers_of m) (reached b (answers_of m) k) boxes + 1 + turns_from limit (suc k)

    by : (t : Bool) → (r.count == k) ≡ t → kept (cond t supplied []) ≤ lacking_next (answers_of m) (reached b (answers_of m) r.count) supplied + 1 + turns_from limit (suc r.count)
    by true e =
        let same : r.count ≡ k = eqb-true r.count k e in
        subst (λ (j : ℕ). kept supplied ≤ lacking_next (answers_of m) (reached b (answers_of m) j) supplied + 1 + turns_from limit (suc j)) (sym same) (omega arith)
    by false e =
        let later : r.count < k = apart r.count k grew e in
        omega (arith, enough limit k (lacking_next (answers_of m) (reached b (answers_of m) k) []) less (few_next b (answers_of m) k []), later_less limit (suc r.count) k later)

stays_left : (b : Behaviour) (m : Model) (limit : ℕ) (at : AtSetup) (r : Option Resumed) (from : Option ℕ) (there : Point) (old : Timeline ℕ) (boxes supplied : List Part) → IsThere b (answers_of m) limit at r (start_of limit old.stored) from there
    → left_of b m limit (at_setup (Waiting from there)) (resumed limit (Waiting from there)) (positions_at limit r there old).stored (boxes_at b (answers_of m) from there boxes) (supplied_at at r there supplied) ≤ left_of b m limit at r old.stored boxes supplied
stays_left b m limit at None from point.Setup old boxes supplied is = waits_setup b m limit at (start_of limit old.stored) boxes supplied is.0 is.1
stays_left b m limit at (Some r) from point.Setup old boxes supplied is = absurd is
stays_left b m limit at None from point.Position old boxes supplied is =
    let event : ℕ = is.0 in
    let kept : List Part = kept_back b (answers_of m) event boxes in
    let again : start_of limit (cut (start_of limit old.stored) old).stored ≡ Some event = start_again limit old ∙ is.1 in
    let same : lacking_back b m event (kept_back b (answers_of m) event kept) ≡ lacking_back b m event kept = ap (lacking_back b m event) (kept_again b (answers_of m) event boxes) in
    rw (is.2, again, is.1) (omega (arith, same))
stays_left b m limit at (Some r) from point.Position old boxes supplied is = absurd is
stays_left b m limit at None from (point.Start k id) old boxes supplied is =
    rw is.1.least (omega (arith, enough limit k (lacking_next (answers_of m) (reached b (answers_of m) k) []) is.1.less (few_next b (answers_of m) k []), waits_anew b m limit k at (start_of limit old.stored) boxes supplied is.2))
stays_left b m limit at (Some r) from (point.Start k id) old boxes supplied is = rw is.1.least (waits_onwards b m limit k r supplied is.2 is.3 is.1.less)

waits_stays : (b : Behaviour) (before : Editing) (limit : ℕ) (wait : Wait) → wait_in b before limit ≡ Some wait → left_in_run b limit (waits_at b before limit wait) ≤ left_in_run b limit before
waits_stays b before limit wait is =
    stays_left b before.model limit (at_setup before.phase) (resumed limit before.phase) wait.from wait.at before.positions before.boxes before.supplied (waits_there_is b before limit wait is)

pub waits_left : (b : Behaviour) (before after : Editing) (limit : ℕ) (request : Request) → WaitsFor b before limit request after → left_in_run b limit after ≤ left_in_run b limit before
waits_left b before after limit request w = subst (λ (e : Editing). left_in_run b limit e ≤ left_in_run b limit before) (sym w.waits) (waits_stays b before limit w.wait w.is)

-- ---- it hears that there is no box: less is left

-- where a run goes back to a position no box is declined
abbrev pub IsNotBack : Phase → Type 0
IsNotBack (Declined from point.Position) = ⊥
IsNotBack (Declined from point.Setup) = Unit {0}
IsNotBack (Declined from (point.Start k id)) = Unit {0}
IsNotBack (Waiting from at) = Unit {0}
IsNotBack Idle = Unit {0}

pub live_not_back : (b : Behaviour) (m : Answers) (w : World) (waiting : List BoxAt) (phase : Phase) → IsLive b m w waiting phase → IsNotBack phase
live_not_back b m w waiting (Declined from point.Position) live = absurd live
live_not_back b m w waiting (Declined from point.Setup) live = tt
live_not_back b m w waiting (Declined from (point.Start k id)) live = tt
live_not_back b m w waiting (Waiting from at) live = tt
live_not_back b m w waiting Idle live = tt

declined_less : (b : Behaviour) (m : Model) (limit : ℕ) (from : Option ℕ) (there : Point) (stored : List ℕ) (boxes supplied : List Part) → WaitsAt limit stored (Waiting from there) → IsNotBack (Declined from there)
    → left_of b m limit (at_setup (Declined from there)) (resumed limit (Declined from there)) stored boxes supplied < left_of b m limit (at_setup (Waiting from there)) (resumed limit (Waiting from there)) stored boxes supplied
declined_less b m limit from point.Setup stored boxes supplied at told = rw at (omega arith)
declined_less b m limit from point.Position stored boxes supplied at told = absurd told
declined_less b m limit from (point.Start k id) stored boxes supplied at told = rw (le-leb k limit at) (omega arith)

pub declined_left : (b : Behaviour) (before mid after : Editing) (limit : ℕ) (request : Request) → WaitsFor b before limit request mid → after ≡ record mid { phase = declined_at mid.phase } → IsNotBack after.phase → left_in_run b limit after < left_in_run b limit before
declined_left b before mid after limit request w e told =
    let there : Editing = waits_at b before limit w.wait in
    let other : Editing = record there { phase = Declined w.wait.from w.wait.at } in
    let is : after ≡ other = e ∙ ap (λ (x : Editing). record x { phase = declined_at x.phase }) w.waits in
    let same : left_in_run b limit after ≡ left_in_run b limit other = ap (left_in_run b limit) is in
    let waits : WaitsAt limit there.positions.stored there.phase = subst (λ (x : Editing). WaitsAt limit x.positions.stored x.phase) w.waits (waits_there b before mid limit request w) in
    let less : left_in_run b limit other < left_in_run b limit there = declined_less b before.model limit w.wait.from w.wait.at there.positions.stored there.boxes there.supplied waits (subst (λ (x : Editing). IsNotBack x.phase) is told) in
    omega (arith, same, less, waits_stays b before limit w.wait w.is)

-- ---- it has a box more: less is left

supplied_less : (b : Behaviour) (limit : ℕ) (e : Editing) (phase : Phase) (o : Option Request) → waited_for b phase e.model e.boxes e.supplied ≡ o → IsSome o → WaitsAt limit e.positions.stored phase
    → left_in_run b limit (with_wanted o (record e { phase = phase })) < left_in_run b limit (record e { phase = phase })
supplied_less b limit e phase None wants some at = cc
supplied_less b limit e (Waiting from point.Setup) (Some request) wants some at =
    rw at (omega (arith, setup_less (prepared (answers_of e.model)) e.supplied request wants))
supplied_less b limit e (Waiting None point.Position) (Some request) wants some at = cc
supplied_less b limit e (Waiting (Some event) point.Position) (Some request) wants some at =
    let start : start_of limit e.positions.stored ≡ Some event = at.2 ∙ sym at.1 in
    rw start (omega (arith, back_less (world_at (reached b (answers_of e.model) event)) e.boxes request wants))
supplied_less b limit e (Waiting from (point.Start k (Some id))) (Some request) wants some at =
    rw (le-leb k limit at) (omega (arith, next_less (answers_of e.model) (reached b (answers_of e.model) k) e.supplied request wants))
supplied_less b limit e (Waiting from (point.Start k None)) (Some request) wants some at = cc
supplied_less b limit e Idle (Some request) wants some at = absurd at
supplied_less b limit e (Declined from there) (Some request) wants some at = absurd at

pub supplied_left : (b : Behaviour) (limit : ℕ) (before after : Editing) → IsSome (wanted_of b before) → WaitsAt limit before.positions.stored before.phase → after ≡ with_box b before → left_in_run b limit after < left_in_run b limit before
supplied_left b limit before after is at e =
    subst (λ (x : Editing). left_in_run b limit x < left_in_run b limit before) (sym e)
    (supplied_less b limit before before.phase (wanted_of b before) refl is at)
