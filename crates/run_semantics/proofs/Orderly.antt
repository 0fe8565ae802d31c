-- In every world of a run the events to come are in order, none is late, each has a number of its
-- own, and each is for a module that lives; and what was emitted stands in the order of events.
use Rattle.std.proofs.Common.{◌≡◌, ◌≢◌, ◌⊎◌, inl, inr, ℕ, zero, suc, ◌+◌, ◌≤◌, ◌<◌, cond, not, Bool, true, false, List, [], ◌∷◌, ◌++◌, None, refl, sym, ap, ◌∙◌, arith, subst, append_assoc, append-nil, if◌then◌else◌}
use Rattle.std.specs.List.{filter}
use Rattle.module_api.specs.Behaviour.{Behaviour}
use Rattle.model_questions.specs.Answers.{Answers}
use Rattle.run_semantics.specs.declared.outcome.Outcome.{Outcome}
use Rattle.run_semantics.specs.declared.outcome.Outcome.TheVariants.{Ended, TimeLimit}
use Rattle.event_set.specs.declared.pending.Pending.{Pending}
use Rattle.event_set.specs.Order.{inserted, comes_before}
use Rattle.run_semantics.specs.declared.traces.Emission.{Emission}
use Rattle.run_semantics.specs.World.{World, empty, is_live}
use Rattle.run_semantics.specs.Event.{begun, event}
use Rattle.run_semantics.specs.Deleting.{gone, subtree_of}
use Rattle.run_semantics.specs.Run.{Stage, Running, Over, world_at, settled, is_after_limit, went, next_stage, after}
use Rattle.run_semantics.specs.Laws.{Each, AreInOrder, AreInTurn, HaveOwnNumbers, GoesOn}
use Rattle.run_semantics.specs.Subtree.{among}
use Rattle.run_semantics.specs.Upcoming.{Upcoming, Comes, Nothing, upcoming}
use Rattle.run_semantics.proofs.Ahead.{IsAhead, MayCome, ComesWell, ahead_at_zero, upcoming_well}
use Rattle.run_semantics.proofs.Alive.{each_filter, live_gone, live_more, not_among}
use Rattle.run_semantics.proofs.Always.{LastsAlways, always, begins_hold}
use Rattle.run_semantics.proofs.Fitting.{begun_grows, fits_after, fits_looked, settled_world}
use Rattle.run_semantics.proofs.Flows.{in_flow}
use Rattle.run_semantics.proofs.Growth.{Fits}
use Rattle.run_semantics.proofs.Lasting.{Lasts, by_steps, event_holds}
use Rattle.run_semantics.proofs.Looking.{beside, HasLooked, upcoming_looks}
use Rattle.event_set.proofs.Order.{each_map, each_append, each_inserted, ordered_inserted, own_inserted, each_without, ordered_without, own_without}

-- what holds of the events to come of a world
pub record IsOrderly (w : World) : Type 0 where
  pub order : AreInOrder w.pending
  pub own : HaveOwnNumbers w.pending
  pub below : Each (λ e. e.number < w.next) w.pending
  pub due : Each (λ e. w.clock ≤ e.time) w.pending
  pub live : Each (λ e. is_live w e.id ≡ true) w.pending

-- ---- some events are taken out

ordered_filter : (f : Pending → Bool) (es : List Pending) → AreInOrder es → AreInOrder (filter f es)
ordered_filter f [] h = tt
ordered_filter f (e ∷ es) h = by (f e) (ordered_filter f es h.1) (each_filter _ _ f es (λ g k x. k) h.0)
  where
    by : (t : Bool) → AreInOrder (filter f es) → Each (λ g. comes_before e g ≡ true) (filter f es) → AreInOrder (cond t (e ∷ filter f es) (filter f es))
    by true later all = (all, later)
    by false later all = later

own_filter : (f : Pending → Bool) (es : List Pending) → HaveOwnNumbers es → HaveOwnNumbers (filter f es)
own_filter f [] h = tt
own_filter f (e ∷ es) h = by (f e) (own_filter f es h.1) (each_filter _ _ f es (λ g k x. k) h.0)
  where
    by : (t : Bool) → HaveOwnNumbers (filter f es) → Each (λ g. g.number ≢ e.number) (filter f es) → HaveOwnNumbers (cond t (e ∷ filter f es) (filter f es))
    by true later all = (all, later)
    by false later all = later

-- ---- steps

orderly_inserted : (e : Pending) (w : World) → IsOrderly w → e.number ≡ w.next → w.clock ≤ e.time → is_live w e.id ≡ true → IsOrderly (record w { pending = inserted e w.pending; next = w.next + 1 })
orderly_inserted e w f number time live =
    let ne : Each (λ g. g.number ≢ e.number) w.pending = each_map (λ g. g.number < w.next) (λ g. g.number ≢ e.number) w.pending (λ g l x. absurd (omega (arith, l, x, number))) f.below in
    record {
      order = ordered_inserted e w.pending ne f.order;
      own = own_inserted e w.pending ne f.own;
      below = each_inserted (λ g. g.number < w.next + 1) e w.pending (omega (arith, number)) (each_map (λ g. g.number < w.next) (λ g. g.number < w.next + 1) w.pending (λ g l. omega (arith, l)) f.below);
      due = each_inserted (λ g. w.clock ≤ g.time) e w.pending time f.due;
      live = each_inserted (λ g. is_live w g.id ≡ true) e w.pending live f.live;
    }

orderly_same : (w v : World) → IsOrderly w → v.pending ≡ w.pending → v.next ≡ w.next → v.clock ≡ w.clock → v.records ≡ w.records → v.dead ≡ w.dead → IsOrderly v
orderly_same w v f pending next clock records dead = record {
  order = subst AreInOrder (sym pending) f.order;
  own = subst HaveOwnNumbers (sym pending) f.own;
  below = rw (pending, next) f.below;
  due = rw (pending, clock) f.due;
  live = rw (pending, records, dead) f.live;
}

orderly_more : (w v : World) (more : List _) → IsOrderly w → v.pending ≡ w.pending → v.next ≡ w.next → v.clock ≡ w.clock → v.records ≡ w.records ++ more → v.dead ≡ w.dead → IsOrderly v
orderly_more w v more f pending next clock records dead = record {
  order = subst AreInOrder (sym pending) f.order;
  own = subst HaveOwnNumbers (sym pending) f.own;
  below = rw (pending, next) f.below;
  due = rw (pending, clock) f.due;
  live = subst (Each (λ (e : Pending). is_live v e.id ≡ true)) (sym pending) (each_map (λ (e : Pending). is_live w e.id ≡ true) (λ (e : Pending). is_live v e.id ≡ true) w.pending (λ e h. live_more w v more e.id records dead h) f.live);
}

orderly_gone : (w : World) (ids : List ℕ) → IsOrderly w → IsOrderly (gone ids w)
orderly_gone w ids f = record {
  order = ordered_filter _ w.pending f.order;
  own = own_filter _ w.pending f.own;
  below = each_filter (λ e. e.number < w.next) (λ e. e.number < w.next) _ w.pending (λ e h x. h) f.below;
  due = each_filter (λ e. w.clock ≤ e.time) (λ e. w.clock ≤ e.time) _ w.pending (λ e h x. h) f.due;
  live = each_filter (λ e. is_live w e.id ≡ true) (λ e. is_live (gone ids w) e.id ≡ true) (λ (e : Pending). not (among e.id ids)) w.pending (λ e h x. live_gone w ids e.id h (not_among e.id ids x)) f.live;
}

-- no injection that is left is due before the clock
abbrev IsInTime : Answers → World → Type 0
IsInTime m w = IsAhead w.clock w.delivered m.injections

abbrev IsWell : Answers → World → Type 0
IsWell m w = IsOrderly w × IsInTime m w

well_lasts : (b : Behaviour) (m : Answers) → Lasts b m (IsWell m)
well_lasts b m = record {
  asked = λ q w n f g p. (orderly_same w _ p.0 refl refl refl refl refl, p.1);
  emitted = λ e w n t f g p. (orderly_same w _ p.0 refl refl refl refl refl, p.1);
  recorded = λ s w f g p. (orderly_same w _ p.0 refl refl refl refl refl, p.1);
  inserted = λ e w n t live short f g p. (orderly_inserted e w p.0 n t live, p.1);
  cancelled = λ id timer w f g p. (
    record {
      order = ordered_without id timer w.pending p.0.order;
      own = own_without id timer w.pending p.0.own;
      below = each_without (λ e. e.number < w.next) id timer w.pending p.0.below;
      due = each_without (λ e. w.clock ≤ e.time) id timer w.pending p.0.due;
      live = each_without (λ e. is_live w e.id ≡ true) id timer w.pending p.0.live;
    },
    p.1,
  );
  transmitted = λ ts w f g p. (orderly_same w _ p.0 refl refl refl refl refl, p.1);
  joined = λ gate to w f g p. (orderly_same w _ p.0 refl refl refl refl refl, p.1);
  ended = λ w f g p. (orderly_same w _ p.0 refl refl refl refl refl, p.1);
  called = λ id reason i w e f g p. (orderly_same w _ p.0 refl refl refl refl refl, p.1);
  finished = λ id w f g p. (orderly_same w _ p.0 refl refl refl refl refl, p.1);
  gone = λ target w live f g p. (orderly_gone w (subtree_of target w) p.0, p.1);
  created = λ parent c class w live room deep f g p. (orderly_more w _ _ p.0 refl refl refl refl refl, p.1);
  set_up = by_steps m (IsWell m) (λ id w n f g p. (orderly_same w _ p.0 refl refl refl refl refl, p.1)) (λ parent bs w n few f g p. (orderly_more w _ _ p.0 refl refl refl refl refl, p.1));
  started = λ ids w e live fresh f g p. (orderly_same w _ p.0 refl refl refl refl refl, p.1);
}

-- An event is one of those to come, which is taken out, or is none of them; and of those that are
-- left none is due before it.
orderly_begun : (p : Pending) (rest : List Pending) (w : World) → (rest ≡ w.pending) ⊎ (w.pending ≡ p ∷ rest) → Each (λ g. p.time ≤ g.time) rest → IsOrderly w → IsOrderly (begun p rest w)
orderly_begun p rest w (inl e) later f = record {
  order = subst AreInOrder (sym e) f.order;
  own = subst HaveOwnNumbers (sym e) f.own;
  below = subst (Each (λ (g : Pending). g.number < w.next)) (sym e) f.below;
  due = later;
  live = subst (Each (λ (g : Pending). is_live w g.id ≡ true)) (sym e) f.live;
}
orderly_begun p rest w (inr e) later f =
    let order : AreInOrder (p ∷ rest) = subst AreInOrder e f.order in
    let own : HaveOwnNumbers (p ∷ rest) = subst HaveOwnNumbers e f.own in
    let below : Each (λ g. g.number < w.next) (p ∷ rest) = subst (Each (λ (g : Pending). g.number < w.next)) e f.below in
    let live : Each (λ g. is_live w g.id ≡ true) (p ∷ rest) = subst (Each (λ (g : Pending). is_live w g.id ≡ true)) e f.live in
    record { order = order.1; own = own.1; below = below.1; due = later; live = live.1 }

-- what comes next may come
comes_well : (m : Answers) (w u : World) (p : Pending) (rest : List Pending) → upcoming m w ≡ Comes u p rest → IsWell m w → MayCome m w.clock w.pending u p rest
comes_well m w u p rest e h = subst (ComesWell m w.clock w.pending) e (upcoming_well m w h.0.order h.0.due h.1)

looked_pending : (w u : World) → HasLooked w u → u.pending ≡ w.pending
looked_pending w u h = sym (ap (λ (v : World). v.pending) h.same)

orderly_looked : (w u : World) → HasLooked w u → IsOrderly w → IsOrderly u
orderly_looked w u h f = subst IsOrderly h.same (orderly_same w _ f refl refl refl refl refl)

begun_well : (m : Answers) (w u : World) (p : Pending) (rest : List Pending) → upcoming m w ≡ Comes u p rest → HasLooked w u → IsWell m w → IsWell m (begun p rest u)
begun_well m w u p rest e looked h =
    let may = comes_well m w u p rest e h in
    let left : (rest ≡ u.pending) ⊎ (u.pending ≡ p ∷ rest) = subst (λ (ps : List Pending). (rest ≡ ps) ⊎ (ps ≡ p ∷ rest)) (sym (looked_pending w u looked)) may.left in
    (orderly_begun p rest u left may.later (orderly_looked w u looked h.0), may.ahead)

well_always : (b : Behaviour) (m : Answers) → LastsAlways b m (IsWell m)
well_always b m = record {
  lasts = well_lasts b m;
  at_first = (record { order = tt; own = tt; below = tt; due = tt; live = tt }, ahead_at_zero None m.injections);
  network = λ name. (record { order = tt; own = tt; below = tt; due = tt; live = tt }, ahead_at_zero None m.injections);
  begins = λ w u p rest e looked f h. begun_well m w u p rest e looked h;
}

pub well_after : (b : Behaviour) (m : Answers) (n : ℕ) → IsWell m (world_at (after b m n))
well_after b m n = always b m (IsWell m) (well_always b m) n

-- every world of a run is orderly
pub orderly_after : (b : Behaviour) (m : Answers) (n : ℕ) → IsOrderly (world_at (after b m n))
orderly_after b m n = (well_after b m n).0

-- in every world of a run no injection that is left is due before the clock
pub in_time_after : (b : Behaviour) (m : Answers) (n : ℕ) → IsAhead (world_at (after b m n)).clock (world_at (after b m n)).delivered m.injections
in_time_after b m n = (well_after b m n).1

-- ---- nothing that happened is undone

-- a list goes on from itself
abbrev pub on_same : {X : Type 0} (xs : List X) → GoesOn xs xs
on_same xs = ([], append-nil xs)

-- and from what it went on from
abbrev pub on_more : {X : Type 0} (xs ys zs : List X) → GoesOn xs ys → GoesOn ys zs → GoesOn xs zs
on_more xs ys zs f g = (f.0 ++ g.0, sym (append_assoc xs f.0 g.0) ∙ (ap (λ us. us ++ g.0) f.1 ∙ g.1))

-- with more at its end
abbrev on_added : {X : Type 0} (xs ys more : List X) → GoesOn xs ys → GoesOn xs (ys ++ more)
on_added xs ys more f = on_more xs ys (ys ++ more) f (more, refl)

-- all were emitted in that event, at that time
abbrev pub AreOf : ℕ → ℕ → List Emission → Type 0
AreOf event time es = Each (λ e. (e.event ≡ event) × (e.time ≡ time)) es

-- from the first world to the second, within one event
pub record Since (old new : World) : Type 0 where
  pub clock : new.clock ≡ old.clock
  pub count : new.count ≡ old.count
  pub next : old.next ≤ new.next
  pub dead : GoesOn old.dead new.dead
  pub started : GoesOn old.started new.started
  pub finished : GoesOn old.finished new.finished
  pub changes : GoesOn old.changes new.changes
  pub emissions : GoesOn old.emissions new.emissions
  pub present : AreOf old.count old.clock emissions.0
  pub scalars : GoesOn old.scalars new.scalars

since_same : (w : World) → Since w w
since_same w = record { clock = refl; count = refl; next = omega arith; dead = on_same w.dead; started = on_same w.started; finished = on_same w.finished; changes = on_same w.changes; emissions = on_same w.emissions; present = tt; scalars = on_same w.scalars }

since_lasts : (b : Behaviour) (m : Answers) (u : World) → Lasts b m (Since u)
since_lasts b m u = record {
  asked = λ q w n f g p. record { clock = p.clock; count = p.count; next = p.next; dead = p.dead; started = p.started; finished = p.finished; changes = p.changes; emissions = p.emissions; present = p.present; scalars = p.scalars };
  emitted = λ e w n t f g p. record { clock = p.clock; count = p.count; next = p.next; dead = p.dead; started = p.started; finished = p.finished; changes = p.changes; emissions = on_added u.emissions w.emissions (e ∷ []) p.emissions; present = each_append (λ (e : Emission). (e.event ≡ u.count) × (e.time ≡ u.clock)) p.emissions.0 (e ∷ []) p.present ((n ∙ p.count, t ∙ p.clock), tt); scalars = p.scalars };
  recorded = λ s w f g p. record { clock = p.clock; count = p.count; next = p.next; dead = p.dead; started = p.started; finished = p.finished; changes = p.changes; emissions = p.emissions; present = p.present; scalars = on_added u.scalars w.scalars (s ∷ []) p.scalars };
  inserted = λ e w n t live short f g p. let l = p.next in record { clock = p.clock; count = p.count; next = omega (arith, l); dead = p.dead; started = p.started; finished = p.finished; changes = p.changes; emissions = p.emissions; present = p.present; scalars = p.scalars };
  cancelled = λ id timer w f g p. record { clock = p.clock; count = p.count; next = p.next; dead = p.dead; started = p.started; finished = p.finished; changes = p.changes; emissions = p.emissions; present = p.present; scalars = p.scalars };
  transmitted = λ ts w f g p. record { clock = p.clock; count = p.count; next = p.next; dead = p.dead; started = p.started; finished = p.finished; changes = p.changes; emissions = p.emissions; present = p.present; scalars = p.scalars };
  joined = λ gate to w f g p. record { clock = p.clock; count = p.count; next = p.next; dead = p.dead; started = p.started; finished = p.finished; changes = on_added u.changes w.changes _ p.changes; emissions = p.emissions; present = p.present; scalars = p.scalars };
  ended = λ w f g p. record { clock = p.clock; count = p.count; next = p.next; dead = p.dead; started = p.started; finished = p.finished; changes = p.changes; emissions = p.emissions; present = p.present; scalars = p.scalars };
  called = λ id reason i w e f g p. record { clock = p.clock; count = p.count; next = p.next; dead = p.dead; started = p.started; finished = p.finished; changes = p.changes; emissions = p.emissions; present = p.present; scalars = p.scalars };
  finished = λ id w f g p. record { clock = p.clock; count = p.count; next = p.next; dead = p.dead; started = p.started; finished = on_added u.finished w.finished (id ∷ []) p.finished; changes = p.changes; emissions = p.emissions; present = p.present; scalars = p.scalars };
  gone = λ target w live f g p. record { clock = p.clock; count = p.count; next = p.next; dead = on_added u.dead w.dead (subtree_of target w) p.dead; started = p.started; finished = p.finished; changes = p.changes; emissions = p.emissions; present = p.present; scalars = p.scalars };
  created = λ parent c class w live room deep f g p. record { clock = p.clock; count = p.count; next = p.next; dead = p.dead; started = p.started; finished = p.finished; changes = p.changes; emissions = p.emissions; present = p.present; scalars = p.scalars };
  set_up = by_steps m (Since u) (λ id w n f g p. record { clock = p.clock; count = p.count; next = p.next; dead = p.dead; started = p.started; finished = p.finished; changes = p.changes; emissions = p.emissions; present = p.present; scalars = p.scalars }) (λ parent bs w n few f g p. record { clock = p.clock; count = p.count; next = p.next; dead = p.dead; started = p.started; finished = p.finished; changes = p.changes; emissions = p.emissions; present = p.present; scalars = p.scalars });
  started = λ ids w e live fresh f g p. record { clock = p.clock; count = p.count; next = p.next; dead = p.dead; started = on_added u.started w.started ids p.started; finished = p.finished; changes = p.changes; emissions = p.emissions; present = p.present; scalars = p.scalars };
}

-- one event
event_since : (b : Behaviour) (m : Answers) (p : Pending) (rest : List Pending) (w : World) → Fits w → Since (begun p rest w) (in_flow (event b m p rest w))
event_since b m p rest w f = let v : World = begun p rest w in (event_holds b m (Since v) (since_lasts b m v) p rest w ((begun_grows p rest w f).fits, since_same v)).1

-- from the first world to the second, over one event at most
pub record Follows (old new : World) : Type 0 where
  pub clock : old.clock ≤ new.clock
  pub count : old.count ≤ new.count
  pub next : old.next ≤ new.next
  pub dead : GoesOn old.dead new.dead
  pub started : GoesOn old.started new.started
  pub finished : GoesOn old.finished new.finished
  pub changes : GoesOn old.changes new.changes
  pub emissions : GoesOn old.emissions new.emissions
  pub present : AreOf new.count new.clock emissions.0
  pub scalars : GoesOn old.scalars new.scalars

follows_same : (w : World) → Follows w w
follows_same w = record { clock = omega arith; count = omega arith; next = omega arith; dead = on_same w.dead; started = on_same w.started; finished = on_same w.finished; changes = on_same w.changes; emissions = on_same w.emissions; present = tt; scalars = on_same w.scalars }

-- an event that begins no earlier than now
since_follows : (p : Pending) (rest : List Pending) (w v : World) → w.clock ≤ p.time → Since (begun p rest w) v → Follows w v
since_follows p rest w v due g = let n = g.next in record {
  clock = omega (arith, due, g.clock);
  count = omega (arith, g.count);
  next = omega (arith, n);
  dead = g.dead;
  started = g.started;
  finished = g.finished;
  changes = g.changes;
  emissions = g.emissions;
  present = rw (g.count, g.clock) g.present;
  scalars = g.scalars;
}

-- what was asked to know what comes next undoes nothing
follows_looked : (w u v : World) → HasLooked w u → Follows u v → Follows w v
follows_looked w u v h g =
    subst (λ (y : World). Follows y v → Follows w v) h.same (λ f. record { clock = f.clock; count = f.count; next = f.next; dead = f.dead; started = f.started; finished = f.finished; changes = f.changes; emissions = f.emissions; present = f.present; scalars = f.scalars }) g

either_follows : (c : Bool) (w : World) (outcome : Outcome) (s : Stage) → Follows w (world_at s) → Follows w (world_at (if c then Over w outcome else s))
either_follows true w outcome s g = follows_same w
either_follows false w outcome s g = g

-- the next event, where there is one
went_follows : (b : Behaviour) (m : Answers) (w : World) (up : Upcoming) → upcoming m w ≡ up → HasLooked w (beside up) → Fits w → IsWell m w → Follows w (world_at (went b m w up))
went_follows b m w (Nothing u) e looked f h = follows_same w
went_follows b m w (Comes u p rest) e looked f h =
    let may = comes_well m w u p rest e h in
    let same : u.clock ≡ w.clock = sym (ap (λ (v : World). v.clock) looked.same) in
    let due = may.due in
    either_follows (is_after_limit m u.records p) w TimeLimit (settled (event b m p rest u))
    (subst (Follows w) (sym (settled_world (event b m p rest u))) (follows_looked w u (in_flow (event b m p rest u)) looked (since_follows p rest u (in_flow (event b m p rest u)) (omega (arith, due, same)) (event_since b m p rest u (fits_looked w u looked f)))))

next_follows : (b : Behaviour) (m : Answers) (s : Stage) → Fits (world_at s) → IsWell m (world_at s) → Follows (world_at s) (world_at (next_stage b m s))
next_follows b m (Running w) f h = either_follows w.ended w Ended (went b m w (upcoming m w)) (went_follows b m w (upcoming m w) refl (upcoming_looks m w) f h)
next_follows b m (Over w outcome) f h = follows_same w

-- from each world of a run to the next
pub after_follows : (b : Behaviour) (m : Answers) (n : ℕ) → Follows (world_at (after b m n)) (world_at (after b m (suc n)))
after_follows b m n = next_follows b m (after b m n) (fits_after b m n) (well_after b m n)

-- event zero
pub zero_since : (b : Behaviour) (m : Answers) → Since empty (world_at (after b m 0))
zero_since b m = begins_hold b m (Since empty) (since_lasts b m empty) (record { clock = refl; count = refl; next = omega arith; dead = on_same []; started = on_same []; finished = on_same []; changes = on_same []; emissions = on_same []; present = tt; scalars = on_same [] }) (λ name. record { clock = refl; count = refl; next = omega arith; dead = on_same []; started = on_same []; finished = on_same []; changes = on_same []; emissions = on_same []; present = tt; scalars = on_same [] })

-- ---- emissions

-- none was emitted after that event or that time, and along them neither falls
record AreTold (event time : ℕ) (es : List Emission) : Type 0 where
  past : Each (λ e. (e.event ≤ event) × (e.time ≤ time)) es
  turn : AreInTurn es

-- emissions of one event and time
turn_of : (event time : ℕ) (es : List Emission) → AreOf event time es → AreInTurn es
turn_of event time [] h = tt
turn_of event time (e ∷ es) h =
    let n = h.0.0 in
    let t = h.0.1 in
    (each_map (λ f. (f.event ≡ event) × (f.time ≡ time)) (λ f. (e.event ≤ f.event) × (e.time ≤ f.time)) es (λ f k. (omega (arith, n, k.0), omega (arith, t, k.1))) h.1, turn_of event time es h.1)

-- emissions, and then those of a later event
turn_append : (event time : ℕ) (xs ys : List Emission) → Each (λ e. (e.event ≤ event) × (e.time ≤ time)) xs → AreInTurn xs → AreOf event time ys → AreInTurn (xs ++ ys)
turn_append event time [] ys p h k = turn_of event time ys k
turn_append event time (e ∷ es) ys p h k =
    let n = p.0.0 in
    let t = p.0.1 in (
      each_append (λ f. (e.event ≤ f.event) × (e.time ≤ f.time)) es ys h.0 (each_map (λ f. (f.event ≡ event) × (f.time ≡ time)) (λ f. (e.event ≤ f.event) × (e.time ≤ f.time)) ys (λ f m. (omega (arith, n, m.0), omega (arith, t, m.1))) k),
      turn_append event time es ys p.1 h.1 k,
    )

-- more are told, of a later event
told_more : (old new was is : ℕ) (xs ys : List Emission) → old ≤ new → was ≤ is → AreTold old was xs → AreOf new is ys → AreTold new is (xs ++ ys)
told_more old new was is xs ys l k f g =
    let later : Each (λ e. (e.event ≤ new) × (e.time ≤ is)) xs = each_map (λ e. (e.event ≤ old) × (e.time ≤ was)) (λ e. (e.event ≤ new) × (e.time ≤ is)) xs (λ e h. (omega (arith, l, h.0), omega (arith, k, h.1))) f.past in
    record {
      past = each_append (λ e. (e.event ≤ new) × (e.time ≤ is)) xs ys later (each_map (λ e. (e.event ≡ new) × (e.time ≡ is)) (λ e. (e.event ≤ new) × (e.time ≤ is)) ys (λ e h. (omega (arith, h.0), omega (arith, h.1))) g);
      turn = turn_append new is xs ys later f.turn g;
    }

-- the same, of a world
abbrev ToldIn : World → Type 0
ToldIn w = AreTold w.count w.clock w.emissions

-- nothing was emitted
told_none : (w : World) → w.emissions ≡ [] → ToldIn w
told_none w e = record { past = rw e tt; turn = rw e tt }

-- and its emissions are in their turn
told_after : (b : Behaviour) (m : Answers) (n : ℕ) → ToldIn (world_at (after b m n))
told_after b m zero =
    let g = zero_since b m in
    let w : World = world_at (after b m zero) in
    subst (AreTold w.count w.clock) g.emissions.1 (told_more 0 w.count 0 w.clock [] g.emissions.0 (omega (arith, g.count)) (omega (arith, g.clock)) (told_none empty refl) (rw (g.count, g.clock) g.present))
told_after b m (suc n) =
    let u : World = world_at (after b m n) in
    let v : World = world_at (after b m (suc n)) in
    let g = after_follows b m n in
    subst (AreTold v.count v.clock) g.emissions.1 (told_more u.count v.count u.clock v.clock u.emissions g.emissions.0 g.count g.clock (told_after b m n) g.present)

-- in each world of a run emissions stand in the order of events
pub turn_after : (b : Behaviour) (m : Answers) (n : ℕ) → AreInTurn (world_at (after b m n)).emissions
turn_after b m n = (told_after b m n).turn

-- and none is above the count or the clock
pub past_after : (b : Behaviour) (m : Answers) (n : ℕ) → Each (λ e. (e.event ≤ (world_at (after b m n)).count) × (e.time ≤ (world_at (after b m n)).clock)) (world_at (after b m n)).emissions
past_after b m n = (told_after b m n).past
