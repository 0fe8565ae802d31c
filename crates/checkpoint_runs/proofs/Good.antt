-- Stored positions stay good: while a run goes on, after an edit, and where a run goes back.
use Rattle.std.proofs.Common.{◌≡◌, ℕ, suc, ◌≤◌, nat_le, Bool, true, false, cond, List, [], ◌∷◌, ◌++◌, Some, length, take, refl, sym, ap, ◌∙◌, arith, subst, append-nil, nat_lt, if◌then◌else◌}
use Rattle.std.proofs.Math.Seq.{take-append_seam}
use Rattle.std.proofs.lemmas.Bool.Decides.{nat_tests}
use Rattle.module_api.specs.Behaviour.{Behaviour}
use Rattle.module_api.specs.Laws.{IsLawful}
use Rattle.model_questions.specs.declared.answer.AskedQuestion.{AskedQuestion}
use Rattle.model_questions.specs.Answers.{Answers}
use Rattle.model_questions.specs.declared.record.Record.{Record}
use Rattle.run_semantics.specs.Laws.{GoesOn, AreStates}
use Rattle.run_semantics.specs.Run.{Running, after, world_at}
use Rattle.run_semantics.specs.World.{World, HasRoom}
use Rattle.run_semantics.proofs.States.{states_of_run}
use Rattle.std.specs.List.{filter}
use Rattle.checkpoints.specs.Stored.{doubled, most_stored, stays as stays_at, thinned, up_to, last_of, last_from, AreBelow, AreRising, Timeline}
use Rattle.kernel_actions.specs.declared.position.Position.{Position}
use Rattle.kernel_boxes.specs.Staying.{IdsRise}
use Rattle.kernel_actions.specs.Positions.{cut_to, lengths_of, position_of, world_back, IsGrownFrom, IsSameBesideModules}
use Rattle.kernel_actions.proofs.Growing.{growth_on, run_grows}
use Rattle.kernel_actions.proofs.Positions.{back_when_grown}
use Rattle.checkpoint_runs.specs.Kept.{taken_if, AreGood, IsGood}
use Rattle.checkpoint_runs.specs.Positions.{CanGoOn}
use Rattle.checkpoint_runs.proofs.Counting.{below_up_to, last_within}
use Rattle.checkpoint_runs.proofs.Standing.{run_rises}

-- ---- a run goes on

-- a list that stays
stays : {X : Type 0} (xs : List X) → GoesOn xs xs
stays xs = ([], append-nil xs)

nothing_grown : (w : World) → IsGrownFrom w w
nothing_grown w = record {
  records = stays w.records;
  dead = stays w.dead;
  started = stays w.started;
  finished = stays w.finished;
  changes = stays w.changes;
  emissions = stays w.emissions;
  scalars = stays w.scalars;
  questions = stays w.questions;
}

grown_good : (b : Behaviour) (m : Answers) (v w : World) (p : Position) → IsGrownFrom v w → IsGood b m v p → IsGood b m w p
grown_good b m v w p grown h = record {
  world = h.world;
  stage = h.stage;
  position = h.position;
  room = h.room;
  grown = growth_on h.world v w h.grown grown;
}

pub good_on : (b : Behaviour) (m : Answers) (v w : World) (ps : List Position) → IsGrownFrom v w → AreGood b m v ps → AreGood b m w ps
good_on b m v w [] grown h = tt
good_on b m v w (p ∷ ps) grown h = (grown_good b m v w p grown h.0, good_on b m v w ps grown h.1)

good_more : (b : Behaviour) (m : Answers) (w : World) (ps : List Position) (p : Position) → AreGood b m w ps → IsGood b m w p → AreGood b m w (ps ++ p ∷ [])
good_more b m w [] p h g = (g, tt)
good_more b m w (q ∷ qs) p h g = (h.0, good_more b m w qs p h.1 g)

-- the position where a run stands
taken_good : (b : Behaviour) (m : Answers) (w : World) → Running w ≡ after b m w.count → HasRoom w → IsGood b m w (position_of w)
taken_good b m w going room = record {
  world = w;
  stage = sym going;
  position = refl;
  room = room;
  grown = nothing_grown w;
}

-- some of them
good_some : (b : Behaviour) (m : Answers) (w : World) (test : Position → Bool) (ps : List Position) → AreGood b m w ps → AreGood b m w (filter test ps)
good_some b m w test [] h = tt
good_some b m w test (p ∷ ps) h = by (test p) (good_some b m w test ps h.1)
  where
    by : (t : Bool) → AreGood b m w (filter test ps) → AreGood b m w (cond t (p ∷ filter test ps) (filter test ps))
    by true rest = (h.0, rest)
    by false rest = rest

good_thinned : (b : Behaviour) (m : Answers) (w : World) (newest : ℕ) (t : Timeline Position) → AreGood b m w t.stored → AreGood b m w (thinned (λ (p : Position). p.count) newest t).stored
good_thinned b m w newest t h = by (nat_lt most_stored (length t.stored))
  where
    by : (test : Bool) → AreGood b m w (Timeline.stored (if test then record { first = t.first; interval = doubled t.interval; stored = filter (λ (p : Position). stays_at (doubled t.interval) newest p.count) t.stored } else t))
    by true = good_some b m w (λ (p : Position). stays_at (doubled t.interval) newest p.count) t.stored h
    by false = h

-- one more, where it is due
pub good_stored : (b : Behaviour) (m : Answers) (w : World) (due : Bool) (old new : Timeline Position) → (due ≡ true → Running w ≡ after b m w.count) → HasRoom w
    → new ≡ taken_if due (position_of w) old → AreGood b m w old.stored → AreGood b m w new.stored
good_stored b m w due old new going room e h = subst (λ (t : Timeline Position). AreGood b m w t.stored) (sym e) (by due going)
  where
    by : (due : Bool) → (due ≡ true → Running w ≡ after b m w.count) → AreGood b m w (taken_if due (position_of w) old).stored
    by true going =
        good_thinned b m w w.count (record { first = old.first; interval = old.interval; stored = old.stored ++ position_of w ∷ [] })
        (good_more b m w old.stored (position_of w) h (taken_good b m w (going refl) room))
    by false going = h

-- ---- those up to an event

pub good_up_to : (b : Behaviour) (m : Answers) (w : World) (v : ℕ) (ps : List Position) → AreGood b m w ps → AreGood b m w (up_to v ps)
good_up_to b m w v ps h = good_some b m w (λ (p : Position). nat_le p.count v) ps h

good_last_from : (b : Behaviour) (m : Answers) (w : World) (p : Position) (ps : List Position) → IsGood b m w p → AreGood b m w ps → IsGood b m w (last_from p ps)
good_last_from b m w p [] g h = g
good_last_from b m w p (q ∷ qs) g h = good_last_from b m w q qs h.0 h.1

pub good_last : (b : Behaviour) (m : Answers) (w : World) (ps : List Position) (p : Position) → AreGood b m w ps → last_of ps ≡ Some p → IsGood b m w p
good_last b m w [] p h e = cc
good_last b m w (q ∷ qs) p h e =
    let is : last_from q qs ≡ p = cc in
    subst (IsGood b m w) is (good_last_from b m w q qs h.0 h.1)

pub up_to_is : (n v : ℕ) → nat_le n v ≡ true → n ≤ v
up_to_is n v h = grind (arith, nat_tests)

-- ---- going back

-- a position has the count of its world
pub good_count : (b : Behaviour) (m : Answers) (w : World) (p : Position) → (h : IsGood b m w p) → p.count ≡ h.world.count
good_count b m w p h = ap (λ (q : Position). q.count) h.position

-- the ids of the modules of a position rise, and their states are those of their kinds
pub good_rises : (b : Behaviour) (m : Answers) (w : World) (p : Position) → IsGood b m w p → IdsRise 0 p.modules
good_rises b m w p h =
    let modules : p.modules ≡ h.world.modules = ap (λ (q : Position). q.modules) h.position in
    let here : world_at (after b m p.count) ≡ h.world = ap world_at h.stage in
    subst (IdsRise 0) (ap (λ (x : World). x.modules) here ∙ sym modules) (run_rises b m p.count)

pub good_states : (b : Behaviour) → IsLawful b → (m : Answers) (w : World) (p : Position) → IsGood b m w p → AreStates b p.modules
good_states b law m w p h =
    let modules : p.modules ≡ h.world.modules = ap (λ (q : Position). q.modules) h.position in
    let here : world_at (after b m p.count) ≡ h.world = ap world_at h.stage in
    subst (AreStates b) (ap (λ (x : World). x.modules) here ∙ sym modules) (states_of_run b law m p.count)

-- going back gives its world
pub good_back : (b : Behaviour) (m : Answers) (w : World) (p : Position) → (h : IsGood b m w p) → world_back p w ≡ h.world
good_back b m w p h = ap (λ q. world_back q w) h.position ∙ back_when_grown h.world w h.grown

pub going_back : (b : Behaviour) (m : Answers) (w : World) (p : Position) → (h : IsGood b m w p) → Running h.world ≡ after b m h.world.count
going_back b m w p h = sym (subst (λ k. after b m k ≡ Running h.world) (good_count b m w p h) h.stage)

-- an earlier position is good wherever the lists go on from this one
pub good_at : (b : Behaviour) (m : Answers) (w u : World) (p q : Position) → (h : IsGood b m w p) → IsGrownFrom h.world u → q.count ≤ p.count → IsGood b m w q → IsGood b m u q
good_at b m w u p q h on l g =
    let grew : IsGrownFrom (world_at (after b m q.count)) (world_at (after b m p.count)) = run_grows b m q.count p.count l in
    record {
      world = g.world;
      stage = g.stage;
      position = g.position;
      room = g.room;
      grown = growth_on g.world h.world u (subst (λ (x : World). IsGrownFrom x h.world) (ap world_at g.stage) (subst (λ (x : World). IsGrownFrom (world_at (after b m q.count)) x) (ap world_at h.stage) grew)) on;
    }

-- those up to the position to which a run goes back are good there
pub good_before : (b : Behaviour) (m : Answers) (w : World) (p : Position) (ps : List Position) → (h : IsGood b m w p) → AreGood b m w ps → AreGood b m h.world (up_to p.count ps)
good_before b m w p [] h g = tt
good_before b m w p (q ∷ qs) h g = by (nat_le q.count p.count) refl (good_before b m w p qs h g.1)
  where
    by : (t : Bool) → nat_le q.count p.count ≡ t → AreGood b m h.world (up_to p.count qs) → AreGood b m h.world (cond t (q ∷ up_to p.count qs) (up_to p.count qs))
    by true e rest = (good_at b m w h.world p q h (nothing_grown h.world) (up_to_is q.count p.count e) g.0, rest)
    by false e rest = rest

-- A RUN THAT WENT BACK to the last position up to the limit
pub record IsBackAt (b : Behaviour) (m : Answers) (limit : ℕ) (u : World) (p : Position) (qs : List Position) : Type 0 where
  pub going : Running u ≡ after b m u.count
  pub within : u.count ≤ limit
  pub room : HasRoom u
  pub good : AreGood b m u qs
  pub below : AreBelow (suc u.count) qs
  pub count : u.count ≡ p.count

pub back_at : (b : Behaviour) (m : Answers) (limit : ℕ) (w u : World) (p : Position) (ps qs : List Position) → AreGood b m w ps → last_of (up_to limit ps) ≡ Some p
    → u ≡ world_back p w → qs ≡ up_to p.count ps → IsBackAt b m limit u p qs
back_at b m limit w u p ps qs good last back cut =
    let h : IsGood b m w p = good_last b m w (up_to limit ps) p (good_up_to b m w limit ps good) last in
    let is : u ≡ h.world = back ∙ good_back b m w p h in
    let at : h.world.count ≡ p.count = sym (good_count b m w p h) in
    let less : p.count ≤ limit = last_within limit ps p last in
    let below : AreBelow (suc h.world.count) (up_to p.count ps) = below_up_to p.count (suc h.world.count) ps (omega (arith, at)) in
    subst (λ (x : World). IsBackAt b m limit x p qs) (sym is) (subst (λ (xs : List Position). IsBackAt b m limit h.world p xs) (sym cut) (record {
      going = going_back b m w p h;
      within = omega (arith, at, less);
      room = h.room;
      good = good_before b m w p ps h good;
      below = below;
      count = at;
    }))

-- what is known of the last position up to the limit
pub good_found : (b : Behaviour) (m : Answers) (limit : ℕ) (w : World) (p : Position) (ps : List Position) → AreGood b m w ps → last_of (up_to limit ps) ≡ Some p → IsGood b m w p
good_found b m limit w p ps good last = good_last b m w (up_to limit ps) p (good_up_to b m w limit ps good) last

-- the run goes on after it
pub can_go_on_last : (b : Behaviour) (m : Answers) (limit : ℕ) (w : World) (p : Position) (ps : List Position) → AreGood b m w ps → last_of (up_to limit ps) ≡ Some p → CanGoOn b m p.count
can_go_on_last b m limit w p ps good last = let h = good_last b m w (up_to limit ps) p (good_up_to b m w limit ps good) last in (h.world, sym h.stage)

-- a world that differs in its modules alone has grown
pub grown_beside : (v w : World) → IsSameBesideModules v w → IsGrownFrom w v
grown_beside v w e =
    let lists : (X : Type 0) → (f : World → List X) → ((x : World) → f x ≡ f (record x { modules = [] })) → GoesOn (f w) (f v) =
    λ X f g. ([], append-nil (f w) ∙ (g w ∙ (ap f (sym e) ∙ sym (g v)))) in
    record {
      records = lists Record (λ x. x.records) (λ x. refl);
      dead = lists ℕ (λ x. x.dead) (λ x. refl);
      started = lists ℕ (λ x. x.started) (λ x. refl);
      finished = lists ℕ (λ x. x.finished) (λ x. refl);
      changes = lists _ (λ x. x.changes) (λ x. refl);
      emissions = lists _ (λ x. x.emissions) (λ x. refl);
      scalars = lists _ (λ x. x.scalars) (λ x. refl);
      questions = lists AskedQuestion (λ x. x.questions) (λ x. refl);
    }

-- ---- a run is given up

-- lists that are cut to what they were
pub cut_is : {X : Type 0} (xs ys : List X) → GoesOn xs ys → take (length xs) ys ≡ xs
cut_is xs ys g = ap (take (length xs)) (sym g.1) ∙ take-append_seam xs g.0

cut_goes : {X : Type 0} (xs ys : List X) → GoesOn xs ys → GoesOn xs (take (length xs) ys)
cut_goes xs ys g = ([], append-nil xs ∙ sym (cut_is xs ys g))

pub cut_grown : (x w : World) → IsGrownFrom x w → IsGrownFrom x (cut_to (lengths_of x) w)
cut_grown x w g = record {
  records = cut_goes x.records w.records g.records;
  dead = cut_goes x.dead w.dead g.dead;
  started = cut_goes x.started w.started g.started;
  finished = cut_goes x.finished w.finished g.finished;
  changes = cut_goes x.changes w.changes g.changes;
  emissions = cut_goes x.emissions w.emissions g.emissions;
  scalars = cut_goes x.scalars w.scalars g.scalars;
  questions = cut_goes x.questions w.questions g.questions;
}

-- of rising counts the last is the greatest
rising_below : (p : Position) (ps : List Position) → AreRising (p ∷ ps) → AreBelow (suc (last_from p ps).count) (p ∷ ps)
rising_below p [] r = (omega arith, tt)
rising_below p (q ∷ qs) r = let h = rising_below q qs r.1 in (let l = h.0 in let k = r.0.0 in omega (arith, l, k), h)

pub last_below : (ps : List Position) (p : Position) → AreRising ps → last_of ps ≡ Some p → AreBelow (suc p.count) ps
last_below [] p r e = tt
last_below (q ∷ qs) p r e =
    let is : last_from q qs ≡ p = cc in
    subst (λ (x : Position). AreBelow (suc x.count) (q ∷ qs)) is (rising_below q qs r)

pub cut_good : (b : Behaviour) (m : Answers) (w u : World) (p : Position) (ps : List Position) → (h : IsGood b m w p) → IsGrownFrom h.world u → AreBelow (suc p.count) ps → AreGood b m w ps → AreGood b m u ps
cut_good b m w u p [] h g l a = tt
cut_good b m w u p (q ∷ qs) h g l a =
    let k = l.0 in
    (good_at b m w u p q h g (omega (arith, k)) a.0, cut_good b m w u p qs h g l.1 a.1)
