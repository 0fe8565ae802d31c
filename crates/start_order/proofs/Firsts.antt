-- The laws: whatever the priorities are of all other events, and where all are short.
use Rattle.std.proofs.Common.{◌≡◌, ◌⊎◌, inl, inr, ℕ, ◌≤◌, ◌<◌, ◌≤ℤ◌, Bool, true, false, IsTrue, List, [], ◌∷◌, Option, None, refl, sym, subst, arith}
use Rattle.event_set.proofs.Order.{other_before}
use Rattle.event_set.specs.Events.{last_started}
use Rattle.event_set.specs.Order.{comes_before}
use Rattle.event_set.specs.declared.pending.Pending.{Pending}
use Rattle.model_injections.specs.declared.injection.Injection.{Injection}
use Rattle.module_api.specs.Behaviour.{Behaviour}
use Rattle.module_api.specs.declared.reply.Action.{Action}
use Rattle.module_api.specs.declared.reply.Action.TheVariants.{Emit, RecordScalar, Send, SendDelayed, SendDirect, ScheduleAt, ScheduleAfter, Cancel, Create, Delete, Connect, Disconnect, End, Fail}
use Rattle.model_questions.specs.Answers.{Answers}
use Rattle.run_semantics.specs.Laws.{Each, IsAmong}
use Rattle.run_semantics.specs.Run.{starting, world_at, after}
use Rattle.run_semantics.specs.Subtree.{among}
use Rattle.run_semantics.specs.Upcoming.{Comes, upcoming}
use Rattle.run_semantics.specs.World.{World, is_live, live_of}
use Rattle.run_semantics.proofs.Alive.{each_among}
use Rattle.run_semantics.proofs.Orderly.{IsOrderly, orderly_after}
use Rattle.nested_starts.proofs.Within.{among_is}
use Rattle.start_order.specs.Priorities.{AnyPriority, IsShort, RepliesWith, SendsOf}
use Rattle.start_order.specs.Waiting.{Any, Awaits, IsStartOf, IsUnbroken, started_by}
use Rattle.start_order.proofs.Awaiting.{IsThere, Waits, each_at, start_of}
use Rattle.start_order.proofs.Comings.{AllSuch}
use Rattle.start_order.proofs.Reaching.{among_starting, each_all, not_before, started_first, waits_after}

-- ---- where nothing is known of priorities

sends_anything : (action : Action) → SendsOf AnyPriority action
sends_anything (Emit signal value) = tt
sends_anything (RecordScalar name value) = tt
sends_anything (Send gate message) = tt
sends_anything (SendDelayed gate message delay) = tt
sends_anything (SendDirect place message flight) = tt
sends_anything (ScheduleAt a) = tt
sends_anything (ScheduleAfter s) = tt
sends_anything (Cancel timer) = tt
sends_anything (Create c) = tt
sends_anything (Delete path finish) = tt
sends_anything (Connect from to link) = tt
sends_anything (Disconnect place) = tt
sends_anything End = tt
sends_anything (Fail text) = tt

keeps_anything : (b : Behaviour) → RepliesWith AnyPriority AnyPriority b
keeps_anything b = record { replies = λ kind state call told. each_all (SendsOf AnyPriority) ((b.naming kind).reply state call).reply.actions sends_anything }

all_anything : (is : List Injection) → AllSuch AnyPriority is
all_anything is = each_all (λ (i : Injection). AnyPriority i.due.priority) is (λ i. tt)

-- WHAT COMES is for a module that was started, or is a start
pub event_first : (b : Behaviour) (m : Answers) (n : ℕ) → IsUnbroken (after b m n) → (u : World) (p : Pending) (rest : List Pending) → upcoming m (world_at (after b m n)) ≡ Comes u p rest → last_started p.what ≡ None → IsShort p.priority → IsAmong p.id (world_at (after b m n)).started
event_first b m n unbroken u p rest up plain least = started_first b m AnyPriority AnyPriority (λ priority x. x) (keeps_anything b) (all_anything m.injections) n unbroken u p rest up plain (λ x. least)

-- the same, where all priorities are short, of injections too
pub catalogue_first : (b : Behaviour) → RepliesWith IsShort IsShort b → (m : Answers) → Each (λ (i : Injection). IsShort i.due.priority) m.injections → (n : ℕ) → IsUnbroken (after b m n) → (u : World) (p : Pending) (rest : List Pending) → upcoming m (world_at (after b m n)) ≡ Comes u p rest → last_started p.what ≡ None → IsAmong p.id (world_at (after b m n)).started
catalogue_first b short m such n unbroken u p rest up plain = started_first b m IsShort IsShort (λ priority x. x) short such n unbroken u p rest up plain (λ x. x)

-- the same, where replies have short priorities whatever the modules are called with
pub replies_first : (b : Behaviour) → RepliesWith AnyPriority IsShort b → (m : Answers) (n : ℕ) → IsUnbroken (after b m n) → (u : World) (p : Pending) (rest : List Pending) → upcoming m (world_at (after b m n)) ≡ Comes u p rest → last_started p.what ≡ None → IsAmong p.id (world_at (after b m n)).started
replies_first b short m n unbroken u p rest up plain = started_first b m AnyPriority IsShort (λ priority x. tt) short (all_anything m.injections) n unbroken u p rest up plain (λ x. x)

-- ---- who waits

any_of : (P : Pending → Type 0) (p : Pending) (ps : List Pending) → IsThere p ps → P p → Any P ps
any_of P p [] i h = absurd i
any_of P p (x ∷ xs) (inl e) h = inl (subst P (sym e) h)
any_of P p (x ∷ xs) (inr i) h = inr (any_of P p xs i h)

each_both : (P Q R : Pending → Type 0) (ps : List Pending) → ((p : Pending) → P p → Q p → R p) → Each P ps → Each Q ps → Each R ps
each_both P Q R [] f h k = tt
each_both P Q R (p ∷ ps) f h k = (f p h.0 k.0, each_both P Q R ps f h.1 k.1)

-- what was inserted later, and is due no earlier, comes after a start
after_start : (s p : Pending) → s.time ≤ p.time → s.priority ≤ℤ p.priority → s.number < p.number → IsTrue (comes_before s p)
after_start s p time priority number = by (comes_before p s) refl
  where
    by : (t : Bool) → comes_before p s ≡ t → IsTrue (comes_before s p)
    by true t = absurd (not_before p s time priority number t)
    by false t = other_before p s (λ e. omega (arith, e, number)) t

awaits_one : (w : World) (id : ℕ) → is_live w id ≡ true → among id w.started ≡ false → IsOrderly w → Waits AnyPriority w → Awaits w id
awaits_one w id live fresh f h =
    let a = h.waits id live fresh in
    let s = start_of AnyPriority w.clock w.next w.records w.pending a.start a.last h.fine a.there a.starts in
    let past = s.time in
    let due = each_at (λ (g : Pending). w.clock ≤ g.time) a.start w.pending f.due a.there in
    let begins = among_is id (starting a.start.id a.last w) (among_starting id a.start.id a.last w live fresh a.from a.to) in
    any_of (IsStartOf w id) a.start w.pending a.there (
      omega (arith, past, due),
      subst (λ (o : Option ℕ). IsAmong id (started_by a.start o w)) (sym a.starts) begins,
      each_both (λ (p : Pending). w.clock ≤ p.time) (λ (p : Pending). p.id ≡ id → last_started p.what ≡ None → a.start.number < p.number) (λ (p : Pending). p.id ≡ id → last_started p.what ≡ None → IsShort p.priority → IsTrue (comes_before a.start p)) w.pending
          (λ p now behind i plain least. after_start a.start p (omega (arith, past, now)) (subst (λ k. k ≤ℤ p.priority) (sym s.priority) least) (behind i plain)) f.due a.behind,
    )

started_or : (w : World) → IsOrderly w → Waits AnyPriority w → (id : ℕ) → is_live w id ≡ true → IsAmong id w.started ⊎ Awaits w id
started_or w f h id live = by (among id w.started) refl
  where
    by : (t : Bool) → among id w.started ≡ t → IsAmong id w.started ⊎ Awaits w id
    by true t = inl (among_is id w.started t)
    by false t = inr (awaits_one w id live t f h)

-- WHO LIVES was started, or waits for its start
pub all_wait : (b : Behaviour) (m : Answers) (n : ℕ) → IsUnbroken (after b m n) → Each (λ id. IsAmong id (world_at (after b m n)).started ⊎ Awaits (world_at (after b m n)) id) (live_of (world_at (after b m n)))
all_wait b m n unbroken =
    let w : World = world_at (after b m n) in
    each_among (λ id. IsAmong id w.started ⊎ Awaits w id) (live_of w)
    (started_or w (orderly_after b m n) (waits_after b m AnyPriority AnyPriority (λ priority x. x) (keeps_anything b) (all_anything m.injections) n unbroken))
