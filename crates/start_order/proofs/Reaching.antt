-- All through a run each module that lives and was not started waits for a start that comes before
-- all that is sent to it.
use Rattle.std.proofs.Common.{◌≡◌, ◌⊎◌, inl, inr, ℕ, ℤ, zero, suc, ◌≤◌, ◌<◌, ◌≤ℤ◌, ◌==◌, nat_le, nat_lt, int_lt, not, Bool, true, false, true≢false, ◌&&◌, ◌||◌, List, [], ◌∷◌, ◌++◌, Option, Some, None, refl, sym, ap, ◌∙◌, subst, arith, map, ltb-true, if◌then◌else◌}
use Rattle.std.proofs.lemmas.Bool.Decides.{nat_tests}
use Rattle.std.proofs.lemmas.Int.{ints}
use Rattle.event_set.specs.Events.{last_started}
use Rattle.event_set.specs.Order.{comes_before}
use Rattle.event_set.specs.declared.pending.Happening.{Happening}
use Rattle.event_set.specs.declared.pending.Happening.TheVariants as happening
use Rattle.event_set.specs.declared.pending.Pending.{Pending}
use Rattle.module_api.specs.declared.call.CallReason.TheVariants as prompt
use Rattle.module_api.specs.Behaviour.{Behaviour}
use Rattle.model_questions.specs.Answers.{Answers}
use Rattle.model_questions.specs.declared.answer.Question.TheVariants.{Root, Build}
use Rattle.run_semantics.specs.Event.{begun, event, happens, message_by, message_of}
use Rattle.run_semantics.specs.Laws.{AreInOrder, Each, IsAmong}
use Rattle.run_semantics.specs.Perform.{call_module, Flow, On, Stopped, Broken, ◌>>=◌}
use Rattle.run_semantics.specs.Run.{Part, fresh, with_instance, with_instances, needs_of, parts_of, placed, start_all, starting, unstarted, with_started, with_network, most_nested, prepared, Stage, Running, Over, world_at, settled, is_after_limit, went, next_stage, after, is_fault}
use Rattle.run_semantics.specs.Subtree.{among}
use Rattle.run_semantics.specs.Upcoming.{Upcoming, Comes, Nothing, upcoming}
use Rattle.run_semantics.specs.World.{World, asked, empty, is_live, live_of}
use Rattle.run_semantics.specs.declared.outcome.Outcome.{Outcome}
use Rattle.run_semantics.specs.declared.outcome.Outcome.TheVariants.{Ended, TimeLimit}
use Rattle.run_semantics.specs.declared.traces.Instance.{Instance}
use Rattle.run_semantics.proofs.Ahead.{ComesWell, IsAhead, upcoming_well}
use Rattle.run_semantics.proofs.Alive.{among_append, among_filter, and_of, each_filter}
use Rattle.run_semantics.proofs.Fitting.{begun_grows, fits_after, fits_looked}
use Rattle.run_semantics.proofs.Growth.{Fits, asked_grows, fits_asked, fits_built, fits_empty, network_grows}
use Rattle.run_semantics.proofs.Lasting.{HasLevels, starting_live, unstarted_live}
use Rattle.run_semantics.proofs.Looking.{HasLooked, beside, upcoming_looks}
use Rattle.run_semantics.proofs.Orderly.{IsOrderly, in_time_after, orderly_after}
use Rattle.run_semantics.proofs.Setting.{Stays, prepared_stays, rooted_stays}
use Rattle.nested_starts.proofs.Within.{AreWithin, among_is}
use Rattle.start_order.specs.Priorities.{IsShort, RepliesWith}
use Rattle.start_order.specs.Waiting.{IsUnbroken}
use Rattle.start_order.proofs.Awaiting.{IsAwaited, IsFine, IsThere, Making, Waits, all_later, each_at, keeps, plain_of, second_not, start_of}
use Rattle.start_order.proofs.Comings.{AllSuch, IsOf, comes_of}
use Rattle.start_order.proofs.Insides.{both_stay, set_up_within}
use Rattle.start_order.proofs.Keeping.{Ends, call_ends, start_ends}

-- ---- truth values

first_not : (a b : Bool) → (a || b) ≡ false → a ≡ false
first_not true b e = cc
first_not false b e = refl

or_first : (a b : Bool) → a ≡ true → (a || b) ≡ true
or_first true b e = refl
or_first false b e = cc

or_second : (a b : Bool) → b ≡ true → (a || b) ≡ true
or_second true b e = refl
or_second false b e = e

le_test : (m n : ℕ) → m ≤ n → nat_le m n ≡ true
le_test m n l = grind (arith, nat_tests)

-- ---- modules that have their boxes

each_with : (T : ℕ → Type 0) (i : Instance) (held : List Instance) → T i.id → Each (λ (j : Instance). T j.id) held → Each (λ (j : Instance). T j.id) (with_instance i held)
each_with T i [] t h = (t, tt)
each_with T i (j ∷ js) t h = by (nat_lt i.id j.id) (each_with T i js t h.1)
  where
    by : (c : Bool) → Each (λ (k : Instance). T k.id) (with_instance i js) → Each (λ (k : Instance). T k.id) (if c then i ∷ j ∷ js else j ∷ with_instance i js)
    by true later = (t, h)
    by false later = (h.0, later)

each_with_all : (T : ℕ → Type 0) (b : Behaviour) (parts : List Part) (held : List Instance) → Each (λ (p : Part). T p.id) parts → Each (λ (j : Instance). T j.id) held → Each (λ (j : Instance). T j.id) (with_instances (map (fresh b) parts) held)
each_with_all T b [] held t h = h
each_with_all T b (p ∷ ps) held t h = each_with T (fresh b p) (with_instances (map (fresh b) ps) held) t.0 (each_with_all T b ps held t.1 h)

pub each_all : {X : Type 0} (T : X → Type 0) (xs : List X) → ((x : X) → T x) → Each T xs
each_all T [] f = tt
each_all T (x ∷ xs) f = (f x, each_all T xs f)

-- all that stand were started, as these are
all_started : (b : Behaviour) (ids : List ℕ) (w : World) → Each (λ (i : Instance). among i.id w.started ≡ true) w.modules → Each (λ (i : Instance). among i.id (w.started ++ ids) ≡ true) (placed b (needs_of ids w) w).modules
all_started b ids w h =
    each_with_all (λ k. among k (w.started ++ ids) ≡ true) b (needs_of ids w) w.modules
    (each_filter (λ (p : Part). Unit {0}) (λ (p : Part). among p.id (w.started ++ ids) ≡ true) (λ (p : Part). among p.id ids) (parts_of w) (λ p u e. among_append p.id w.started ids ∙ or_second (among p.id w.started) (among p.id ids) e) (each_all (λ (p : Part). Unit {0}) (parts_of w) (λ p. tt)))
    (front w.modules h)
  where
    front : (held : List Instance) → Each (λ (i : Instance). among i.id w.started ≡ true) held → Each (λ (i : Instance). among i.id (w.started ++ ids) ≡ true) held
    front [] k = tt
    front (i ∷ is) k = (among_append i.id w.started ids ∙ or_first (among i.id w.started) (among i.id ids) k.0, front is k.1)

-- ---- an event begins

-- the first of the events is taken out, and is not the start
later_awaited : (p : Pending) (rest : List Pending) (k : ℕ) → ((last : ℕ) → last_started p.what ≡ Some last → p.id ≤ k → k ≤ last → ⊥) → IsAwaited (p ∷ rest) k → IsAwaited rest k
later_awaited p rest k differs a = by a.there
  where
    by : (p ≡ a.start) ⊎ IsThere a.start rest → IsAwaited rest k
    by (inl same) = absurd (differs a.last (ap (λ (q : Pending). last_started q.what) same ∙ a.starts) (subst (λ (q : Pending). q.id ≤ k) (sym same) a.from) a.to)
    by (inr i) = record { start = a.start; there = i; last = a.last; starts = a.starts; from = a.from; to = a.to; behind = a.behind.1 }

awaited_left : (p : Pending) (rest : List Pending) (w : World) (k : ℕ) → w.pending ≡ p ∷ rest → IsAwaited w.pending k → ((last : ℕ) → last_started p.what ≡ Some last → p.id ≤ k → k ≤ last → ⊥) → IsAwaited rest k
awaited_left p rest w k e a differs = later_awaited p rest k differs (subst (λ ps. IsAwaited ps k) e a)

none_some : (o : Option ℕ) (last : ℕ) → o ≡ None → o ≡ Some last → ⊥
none_some None last e f = cc
none_some (Some n) last e f = cc

-- one that lives and was not started, and is not started now
not_both : (k : ℕ) (w : World) (ids : List ℕ) → among k (w.started ++ ids) ≡ false → (among k w.started ≡ false) × (among k ids ≡ false)
not_both k w ids e =
    let none : (among k w.started || among k ids) ≡ false = sym (among_append k w.started ids) ∙ e in
    (first_not (among k w.started) (among k ids) none, second_not (among k w.started) (among k ids) none)

among_unstarted : (k : ℕ) (w : World) → is_live w k ≡ true → among k w.started ≡ false → among k (unstarted w) ≡ true
among_unstarted k w lives fresh = among_filter k (λ id. not (among id w.started)) (live_of w) ∙ and_of (among k (live_of w)) (not (among k w.started)) lives (ap not fresh)

pub among_starting : (k first last : ℕ) (w : World) → is_live w k ≡ true → among k w.started ≡ false → first ≤ k → k ≤ last → among k (starting first last w) ≡ true
among_starting k first last w lives fresh l u =
    among_filter k (λ id. nat_le first id && nat_le id last) (unstarted w)
    ∙ and_of (among k (unstarted w)) (nat_le first k && nat_le k last) (among_unstarted k w lives fresh) (and_of (nat_le first k) (nat_le k last) (le_test first k l) (le_test k last u))

-- ---- event zero

-- nothing is to come, nothing was started, and nothing stands
abbrev IsBlank : World → Type 0
IsBlank w = (w.pending ≡ []) × (w.started ≡ []) × (w.modules ≡ [])

network_levels : (name : List ℕ) → HasLevels most_nested 1 (with_network name (asked Root empty))
unfolding most_nested
network_levels name = omega arith

prepared_fits : (m : Answers) → Stays Fits (prepared m)
prepared_fits m = prepared_stays Fits m (record { asked = λ id w h n. fits_asked (Build id) w h n; created = λ parent bs w h n few. fits_built parent bs w h n }) (asked_grows Root empty fits_empty (omega arith)).fits (λ name. (network_grows name).fits)

prepared_blank : (m : Answers) → Stays IsBlank (prepared m)
prepared_blank m = prepared_stays IsBlank m (record { asked = λ id w h n. h; created = λ parent bs w h n few. h }) (refl, refl, refl) (λ name. (refl, refl, refl))

prepared_within : (m : Answers) → Stays (AreWithin 33) (prepared m)
prepared_within m = rooted_stays (AreWithin 33) m tt (λ name. set_up_within m most_nested 1 (with_network name (asked Root empty)) refl (network_levels name) (network_grows name).fits (inl refl, tt))

-- ---- two events of which one was inserted before

not_before_by : (same s t : Bool) (p q : Pending) → (p.time == q.time) ≡ same → int_lt p.priority q.priority ≡ s → int_lt q.priority p.priority ≡ t → q.time ≤ p.time → q.priority ≤ℤ p.priority → q.number < p.number
    → (if same then (if s then true else (if t then false else nat_lt p.number q.number)) else nat_lt p.time q.time) ≡ true → ⊥
not_before_by true true t p q e f g time priority number h = omega (arith, ints, f, priority)
not_before_by true false true p q e f g time priority number h = true≢false (sym h)
not_before_by true false false p q e f g time priority number h = let l = ltb-true p.number q.number h in omega (arith, l, number)
not_before_by false s t p q e f g time priority number h = let l = ltb-true p.time q.time h in omega (arith, l, time)

pub not_before : (p q : Pending) → q.time ≤ p.time → q.priority ≤ℤ p.priority → q.number < p.number → comes_before p q ≡ true → ⊥
not_before p q time priority number h = not_before_by (p.time == q.time) (int_lt p.priority q.priority) (int_lt q.priority p.priority) p q refl refl refl time priority number h

module _ (S : ℤ → Type 0) where
  -- what was so of the events is so of those that are left
  fine_left : (p : Pending) (rest : List Pending) (w : World) → w.clock ≤ p.time → w.pending ≡ p ∷ rest → Waits S w → Each (IsFine S p.time w.next w.records) rest
  fine_left p rest w due e h =
      let all : Each (IsFine S w.clock w.next w.records) (p ∷ rest) = subst (Each (IsFine S w.clock w.next w.records)) e h.fine in
      all_later S w.clock p.time w.next w.next w.records rest due (omega arith) all.1

  -- one that is no start
  plain_begun : (p : Pending) (rest : List Pending) (w : World) → w.clock ≤ p.time → last_started p.what ≡ None → (w.pending ≡ p ∷ rest) ⊎ (rest ≡ w.pending) → Waits S w → Waits S (begun p rest w)
  plain_begun p rest w due plain (inl e) h = record {
    fine = fine_left p rest w due e h;
    waits = λ k lives fresh. awaited_left p rest w k e (h.waits k lives fresh) (λ last s l u. none_some (last_started p.what) last plain s);
    stands = h.stands;
    within = h.within;
  }
  plain_begun p rest w due plain (inr e) h = record {
    fine = all_later S w.clock p.time w.next w.next w.records rest due (omega arith) (subst (Each (IsFine S w.clock w.next w.records)) (sym e) h.fine);
    waits = λ k lives fresh. subst (λ ps. IsAwaited ps k) (sym e) (h.waits k lives fresh);
    stands = h.stands;
    within = h.within;
  }

  -- a start
  start_begun : (b : Behaviour) (p : Pending) (rest : List Pending) (w : World) (last : ℕ) → w.clock ≤ p.time → last_started p.what ≡ Some last → w.pending ≡ p ∷ rest → Waits S w
      → Waits S (with_started (starting p.id last (begun p rest w)) (placed b (needs_of (starting p.id last (begun p rest w)) (begun p rest w)) (begun p rest w)))
  start_begun b p rest w last due s e h =
      let v : World = begun p rest w in
      let ids : List ℕ = starting p.id last v in
      record {
        fine = fine_left p rest w due e h;
        waits = λ k lives fresh.
            let none = not_both k v ids fresh in
            awaited_left p rest w k e (h.waits k lives none.0)
            (λ other t l u. let same : last ≡ other = some_same last other (sym s ∙ t) in true≢false (sym (among_starting k p.id last v lives none.0 l (omega (arith, u, same))) ∙ none.1));
        stands = all_started b ids v h.stands;
        within = h.within;
      }
    where
      some_same : (x y : ℕ) → Some x ≡ Some y → x ≡ y
      some_same x y e = cc

  -- all that live are started
  zero_waits : (b : Behaviour) (w : World) → AreWithin 33 w → IsBlank w → Waits S (with_started (unstarted w) (placed b (needs_of (unstarted w) w) w))
  zero_waits b w within blank =
      let ids : List ℕ = unstarted w in
      record {
        fine = subst (Each (IsFine S w.clock w.next w.records)) (sym blank.0) tt;
        waits = λ k lives fresh. let none = not_both k w ids fresh in absurd (true≢false (sym (among_unstarted k w lives none.0) ∙ none.1));
        stands = all_started b ids w (subst (Each (λ (i : Instance). among i.id w.started ≡ true)) (sym blank.2) tt);
        within = within;
      }

  -- the first event, where it is no start, is for no module that is awaited
  not_first : (p : Pending) (rest : List Pending) (w : World) → w.pending ≡ p ∷ rest → last_started p.what ≡ None → IsShort p.priority → IsOrderly w → Waits S w → IsAwaited (p ∷ rest) p.id → ⊥
  not_first p rest w e plain least f h a = by a.there
    where
      order : AreInOrder (p ∷ rest)
      order = subst AreInOrder e f.order

      due : Each (λ (g : Pending). w.clock ≤ g.time) (p ∷ rest)
      due = subst (Each (λ (g : Pending). w.clock ≤ g.time)) e f.due

      fine : Each (IsFine S w.clock w.next w.records) (p ∷ rest)
      fine = subst (Each (IsFine S w.clock w.next w.records)) e h.fine

      by : (p ≡ a.start) ⊎ IsThere a.start rest → ⊥
      by (inl same) = none_some (last_started p.what) a.last plain (ap (λ (q : Pending). last_started q.what) same ∙ a.starts)
      by (inr i) =
          let s = start_of S w.clock w.next w.records (p ∷ rest) a.start a.last fine a.there a.starts in
          let time = s.time in
          let now = due.0 in
          not_before p a.start (omega (arith, time, now)) (subst (λ i. i ≤ℤ p.priority) (sym s.priority) least) (a.behind.0 refl plain)
          (each_at (λ (g : Pending). comes_before p g ≡ true) a.start rest order.0 i)

  first_started : (p : Pending) (rest : List Pending) (w : World) → w.pending ≡ p ∷ rest → last_started p.what ≡ None → IsShort p.priority → IsOrderly w → Waits S w → among p.id w.started ≡ true
  first_started p rest w e plain least f h = by (among p.id w.started) refl
    where
      live : Each (λ (g : Pending). is_live w g.id ≡ true) (p ∷ rest)
      live = subst (Each (λ (g : Pending). is_live w g.id ≡ true)) e f.live

      by : (t : Bool) → among p.id w.started ≡ t → t ≡ true
      by true t = refl
      by false t = absurd (not_first p rest w e plain least f h (subst (λ ps. IsAwaited ps p.id) e (h.waits p.id live.0 t)))

-- ---- a run

-- a message has the priority of its event
told_priority : (priority : ℤ) (what : Happening) → (message_by priority what).priority ≡ priority
told_priority priority (happening.Start last) = refl
told_priority priority (happening.Timer timer kind) = refl
told_priority priority (happening.Arrival kind bits payload) = refl
told_priority priority (happening.Delivery d) = refl

module _ (b : Behaviour) (m : Answers) (T S : ℤ → Type 0) (wider : (priority : ℤ) → S priority → T priority) (short : RepliesWith T S b) (such : AllSuch T m.injections) where
  -- it is so but where a fault ended the run
  abbrev Good : Stage → Type 0
  Good (Running w) = Waits S w
  Good (Over w outcome) = is_fault outcome ≡ false → Waits S w

  abbrev EndsWell : Flow → Type 0
  EndsWell fl = Ends b m T S (Waits S) (Making S) (keeps S m) short [] fl

  settled_good : (fl : Flow) → EndsWell fl → Good (settled fl)
  settled_good (On w) h = h.0.1
  settled_good (Stopped w) h = h.1
  settled_good (Broken w path f) h = λ e. absurd (true≢false e)

  -- event zero
  start_then : (fl : Flow) → Stays (λ w. Fits w × (AreWithin 33 w × IsBlank w)) fl → Good (settled (fl >>= start_all b m))
  start_then (On w) h = settled_good (start_all b m w) (start_ends b m T S (Waits S) (Making S) (keeps S m) short (unstarted w) 1 w (unstarted_live w) h.0 (zero_waits S b w h.1.0 h.1.1))
  start_then (Stopped w) h = absurd h
  start_then (Broken w path f) h = λ e. absurd (true≢false e)

  zero_good : Good (after b m 0)
  zero_good = start_then (prepared m) (both_stay Fits (λ w. AreWithin 33 w × IsBlank w) (prepared m) (prepared_fits m) (both_stay (AreWithin 33) IsBlank (prepared m) (prepared_within m) (prepared_blank m)))

  -- an event: what begins is one of those to come, or an injection
  abbrev MayBe : World → Pending → List Pending → Type 0
  MayBe w p rest = (w.pending ≡ p ∷ rest) ⊎ ((rest ≡ w.pending) × (last_started p.what ≡ None) × T p.priority)

  taken : (p : Pending) (rest : List Pending) (w : World) (last : ℕ) → last_started p.what ≡ Some last → MayBe w p rest → w.pending ≡ p ∷ rest
  taken p rest w last s (inl e) = e
  taken p rest w last s (inr h) = absurd (none_some (last_started p.what) last h.1 s)

  either_of : (p : Pending) (rest : List Pending) (w : World) → MayBe w p rest → (w.pending ≡ p ∷ rest) ⊎ (rest ≡ w.pending)
  either_of p rest w (inl e) = inl e
  either_of p rest w (inr h) = inr h.0

  -- its priority
  first_such : (p : Pending) (rest : List Pending) (w : World) → last_started p.what ≡ None → w.pending ≡ p ∷ rest → Waits S w → S p.priority
  first_such p rest w plain e h = plain_of S w.clock w.next w.records p plain (subst (Each (IsFine S w.clock w.next w.records)) e h.fine).0

  told : (p : Pending) (rest : List Pending) (w : World) → last_started p.what ≡ None → MayBe w p rest → Waits S w → T p.priority
  told p rest w plain (inl e) h = wider p.priority (first_such p rest w plain e h)
  told p rest w plain (inr may) h = may.2

  message_well : (p : Pending) (rest : List Pending) (w : World) → last_started p.what ≡ None → w.clock ≤ p.time → MayBe w p rest → Fits (begun p rest w) → Waits S w → EndsWell (call_module b m p.id (prompt.Message (message_of p)) (begun p rest w))
  message_well p rest w plain due may f h =
      call_ends b m T S (Waits S) (Making S) (keeps S m) short p.id (prompt.Message (message_of p)) (begun p rest w)
      (subst T (sym (told_priority p.priority p.what)) (told p rest w plain may h)) (f, plain_begun S p rest w due plain (either_of p rest w may) h)

  happens_well : (p : Pending) (rest : List Pending) (w : World) (what : Happening) → last_started p.what ≡ last_started what → w.clock ≤ p.time → MayBe w p rest → Fits (begun p rest w) → Waits S w → EndsWell (happens b m p what (begun p rest w))
  happens_well p rest w (happening.Start last) s due may f h =
      let v : World = begun p rest w in
      start_ends b m T S (Waits S) (Making S) (keeps S m) short (starting p.id last v) p.id v (starting_live p.id last v) f (start_begun S b p rest w last due s (taken p rest w last s may) h)
  happens_well p rest w (happening.Timer timer kind) s due may f h = message_well p rest w s due may f h
  happens_well p rest w (happening.Arrival kind bits payload) s due may f h = message_well p rest w s due may f h
  happens_well p rest w (happening.Delivery d) s due may f h = message_well p rest w s due may f h

  event_good : (p : Pending) (rest : List Pending) (w : World) → w.clock ≤ p.time → MayBe w p rest → Fits w → Waits S w → Good (settled (event b m p rest w))
  event_good p rest w due may f h = settled_good (event b m p rest w) (happens_well p rest w p.what refl due may (begun_grows p rest w f).fits h)

  -- what comes next
  abbrev ComesSo : World → Pending → List Pending → Type 0
  ComesSo w p rest = IsOf (λ k. among k w.started ≡ true) T w.pending p rest

  may_be : (w : World) (p : Pending) (rest : List Pending) → ComesSo w p rest → MayBe w p rest
  may_be w p rest (inl e) = inl e
  may_be w p rest (inr h) = inr (h.0, h.1, h.3)

  due_of : (w u : World) (p : Pending) (rest : List Pending) → upcoming m w ≡ Comes u p rest → IsOrderly w → IsAhead w.clock w.delivered m.injections → w.clock ≤ p.time
  due_of w u p rest e f ahead = (subst (ComesWell m w.clock w.pending) e (upcoming_well m w f.order f.due ahead)).due

  comes_so : (w u : World) (p : Pending) (rest : List Pending) → upcoming m w ≡ Comes u p rest → Waits S w → ComesSo w p rest
  comes_so w u p rest e h = comes_of (λ k. among k w.started ≡ true) T m w u p rest e such h.stands

  either_good : (c : Bool) (w : World) (outcome : Outcome) (s : Stage) → Waits S w → Good s → Good (if c then Over w outcome else s)
  either_good true w outcome s h k = λ e. h
  either_good false w outcome s h k = k

  came_good : (w u : World) (p : Pending) (rest : List Pending) → HasLooked w u → w.clock ≤ p.time → MayBe w p rest → Fits u → Waits S w → Good (settled (event b m p rest u))
  came_good w u p rest looked due may f h =
      event_good p rest u (subst (λ (v : World). v.clock ≤ p.time) looked.same due) (subst (λ (v : World). MayBe v p rest) looked.same may) f (subst (Waits S) looked.same h)

  went_good : (w : World) (up : Upcoming) → upcoming m w ≡ up → HasLooked w (beside up) → Fits w → IsOrderly w → IsAhead w.clock w.delivered m.injections → Waits S w → Good (went b m w up)
  went_good w (Nothing u) e looked fits f ahead h = λ x. h
  went_good w (Comes u p rest) e looked fits f ahead h =
      either_good (is_after_limit m u.records p) w TimeLimit (settled (event b m p rest u)) h
      (came_good w u p rest looked (due_of w u p rest e f ahead) (may_be w p rest (comes_so w u p rest e h)) (fits_looked w u looked fits) h)

  next_good : (s : Stage) → Fits (world_at s) → IsOrderly (world_at s) → IsAhead (world_at s).clock (world_at s).delivered m.injections → Good s → Good (next_stage b m s)
  next_good (Running w) fits f ahead h = either_good w.ended w Ended (went b m w (upcoming m w)) h (went_good w (upcoming m w) refl (upcoming_looks m w) fits f ahead h)
  next_good (Over w outcome) fits f ahead h = h

  good_after : (n : ℕ) → Good (after b m n)
  good_after zero = zero_good
  good_after (suc n) = next_good (after b m n) (fits_after b m n) (orderly_after b m n) (in_time_after b m n) (good_after n)

  unbroken : (s : Stage) → IsUnbroken s → Good s → Waits S (world_at s)
  unbroken (Running w) u h = h
  unbroken (Over w outcome) u h = h u

  -- ALL THROUGH A RUN
  pub waits_after : (n : ℕ) → IsUnbroken (after b m n) → Waits S (world_at (after b m n))
  waits_after n u = unbroken (after b m n) u (good_after n)

  comes_started : (w : World) (p : Pending) (rest : List Pending) → last_started p.what ≡ None → (S p.priority → IsShort p.priority) → ComesSo w p rest → IsOrderly w → Waits S w → among p.id w.started ≡ true
  comes_started w p rest plain least (inl e) f h = first_started S p rest w e plain (least (first_such p rest w plain e h)) f h
  comes_started w p rest plain least (inr i) f h = i.2

  -- nothing but its start reaches a module that was not started
  pub started_first : (n : ℕ) → IsUnbroken (after b m n) → (u : World) (p : Pending) (rest : List Pending) → upcoming m (world_at (after b m n)) ≡ Comes u p rest → last_started p.what ≡ None → (S p.priority → IsShort p.priority) → IsAmong p.id (world_at (after b m n)).started
  started_first n unbroken u p rest up plain least =
      let w : World = world_at (after b m n) in
      let h = waits_after n unbroken in
      among_is p.id w.started (comes_started w p rest plain least (comes_so w u p rest up h) (orderly_after b m n) h)
