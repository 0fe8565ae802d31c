-- What holds of the events to come while modules wait for their starts, and that each step of an
-- event keeps it.
use Rattle.std.proofs.Common.{◌≡◌, ◌⊎◌, inl, inr, ⊎_elim, ℕ, zero, suc, ◌+◌, ◌≤◌, ◌<◌, ◌==◌, cond, not, nat_lt, ltb-true, ltb-false, ℤ, Bool, true, false, ◌||◌, ◌&&◌, List, [], ◌∷◌, ◌++◌, Option, Some, None, refl, sym, ap, ◌∙◌, subst, arith, append-nil, length, length-append, map, eq-or-lt_of_le, if◌then◌else◌}
use Rattle.std.specs.List.{filter}
use Rattle.event_set.proofs.Order.{each_inserted, each_map, each_without}
use Rattle.event_set.specs.Events.{last_started}
use Rattle.event_set.specs.Order.{comes_before, inserted}
use Rattle.event_set.specs.Timers.{is_timer, is_timer_number, without_timer}
use Rattle.event_set.specs.declared.pending.Happening.{Happening}
use Rattle.event_set.specs.declared.pending.Happening.TheVariants as happening
use Rattle.event_set.specs.declared.pending.Pending.{Pending}
use Rattle.module_api.specs.declared.reply.Creation.{Creation}
use Rattle.model_questions.specs.Answers.{Answers}
use Rattle.model_questions.specs.Records.{record_at}
use Rattle.model_questions.specs.declared.answer.Built.{Built}
use Rattle.model_questions.specs.declared.record.Record.{Record}
use Rattle.run_semantics.specs.Calls.{with_state, changed}
use Rattle.run_semantics.specs.Creating.{is_full, least_priority, levels_in, record_for, with_created, with_start}
use Rattle.run_semantics.specs.Deeds.{with_cancelled}
use Rattle.run_semantics.specs.Deleting.{gone, subtree_of}
use Rattle.run_semantics.specs.Laws.{Each, IsAmong}
use Rattle.run_semantics.specs.Run.{record_under, with_submodules, set_up}
use Rattle.run_semantics.specs.Subtree.{among, ids_from}
use Rattle.run_semantics.specs.World.{World, is_live, live_of}
use Rattle.run_semantics.specs.declared.traces.Instance.{Instance}
use Rattle.run_semantics.proofs.Alive.{among_append, and_both, each_filter, live_is, live_within, lived, not_among}
use Rattle.run_semantics.proofs.Growth.{Fits}
use Rattle.run_semantics.proofs.Lasting.{HasLevels}
use Rattle.run_semantics.proofs.Living.{is_among}
use Rattle.run_semantics.proofs.Setting.{Stays}
use Rattle.nested_starts.specs.Levels.{ParentIs, IsWithin}
use Rattle.nested_starts.proofs.Within.{AreWithin, among_is, each_there, gone_within}
use Rattle.start_order.proofs.Insides.{IsBuiltOn, both_stay, created_within, one_there, record_before, record_of, record_within, set_up_on, set_up_within}
use Rattle.start_order.proofs.Keeping.{IsPlain, Keeps}

-- ---- lists of events

-- it is one of these
abbrev pub IsThere : Pending → List Pending → Type 0
IsThere p [] = ⊥
IsThere p (x ∷ xs) = (x ≡ p) ⊎ IsThere p xs

pub each_at : (T : Pending → Type 0) (p : Pending) (ps : List Pending) → Each T ps → IsThere p ps → T p
each_at T p [] h i = absurd i
each_at T p (x ∷ xs) h (inl e) = subst T e h.0
each_at T p (x ∷ xs) h (inr i) = each_at T p xs h.1 i

either_there : (c : Bool) (p : Pending) (xs ys : List Pending) → IsThere p xs → IsThere p ys → IsThere p (if c then xs else ys)
either_there true p xs ys h k = h
either_there false p xs ys h k = k

there_inserted : (e p : Pending) (ps : List Pending) → IsThere p ps → IsThere p (inserted e ps)
there_inserted e p [] h = absurd h
there_inserted e p (x ∷ xs) (inl s) = either_there (comes_before e x) p (e ∷ x ∷ xs) (x ∷ inserted e xs) (inr (inl s)) (inl s)
there_inserted e p (x ∷ xs) (inr h) = either_there (comes_before e x) p (e ∷ x ∷ xs) (x ∷ inserted e xs) (inr (inr h)) (inr (there_inserted e p xs h))

inserted_there : (e : Pending) (ps : List Pending) → IsThere e (inserted e ps)
inserted_there e [] = inl refl
inserted_there e (x ∷ xs) = either_there (comes_before e x) e (e ∷ x ∷ xs) (x ∷ inserted e xs) (inl refl) (inr (inserted_there e xs))

there_filter : (f : Pending → Bool) (p : Pending) (ps : List Pending) → f p ≡ true → IsThere p ps → IsThere p (filter f ps)
there_filter f p [] e h = absurd h
there_filter f p (x ∷ xs) e (inl s) = subst (λ t. IsThere p (cond t (x ∷ filter f xs) (filter f xs))) (sym (ap f s ∙ e)) (inl s)
there_filter f p (x ∷ xs) e (inr h) = by (f x) (there_filter f p xs e h)
  where
    by : (t : Bool) → IsThere p (filter f xs) → IsThere p (cond t (x ∷ filter f xs) (filter f xs))
    by true later = inr later
    by false later = later

-- a start is no timer
no_timer : (timer last : ℕ) (what : Happening) → last_started what ≡ Some last → is_timer_number timer what ≡ false
no_timer timer last (happening.Timer number kind) e = cc
no_timer timer last (happening.Arrival kind bits payload) e = refl
no_timer timer last (happening.Delivery d) e = refl
no_timer timer last (happening.Start k) e = refl

not_timer : (id timer last : ℕ) (p : Pending) → last_started p.what ≡ Some last → is_timer id timer p ≡ false
not_timer id timer last p e = by (p.id == id) (no_timer timer last p.what e)
  where
    by : (t : Bool) → is_timer_number timer p.what ≡ false → (t && is_timer_number timer p.what) ≡ false
    by true k = k
    by false k = refl

there_without : (id timer last : ℕ) (p : Pending) (ps : List Pending) → last_started p.what ≡ Some last → IsThere p ps → IsThere p (without_timer id timer ps)
there_without id timer last p [] e h = absurd h
there_without id timer last p (x ∷ xs) e (inl s) =
    let kept : is_timer id timer x ≡ false = ap (is_timer id timer) s ∙ not_timer id timer last p e in
    subst (λ t. IsThere p (if t then xs else x ∷ without_timer id timer xs)) (sym kept) (inl s)
there_without id timer last p (x ∷ xs) e (inr h) = either_there (is_timer id timer x) p xs (x ∷ without_timer id timer xs) h (inr (there_without id timer last p xs e h))

-- ---- lists of modules

pub each_state : (T : ℕ → Type 0) (id : ℕ) (state : List ℕ) (held : List Instance) → Each (λ (i : Instance). T i.id) held → Each (λ (i : Instance). T i.id) (with_state id state held)
each_state T id state [] h = tt
each_state T id state (x ∷ xs) h = by (x.id == id) (each_state T id state xs h.1)
  where
    by : (t : Bool) → Each (λ (i : Instance). T i.id) (with_state id state xs) → Each (λ (i : Instance). T i.id) (cond t (record x { state = state } ∷ xs) (x ∷ with_state id state xs))
    by true later = h
    by false later = (h.0, later)

-- ---- starts

-- the modules after the first id, up to the last one, have their parents among these and the first
abbrev IsInside : List Record → ℕ → ℕ → Type 0
IsInside rs first last = (k : ℕ) (r : Record) → first < k → k ≤ last → record_at rs k ≡ Some r → (first ≤ r.parent) × (r.parent ≤ last)

-- an event is the start of a module and of those inside of it up to that id, and is not to come
-- later than now
pub record IsStart (clock : ℕ) (rs : List Record) (p : Pending) (last : ℕ) : Type 0 where
  pub time : p.time ≤ clock
  pub priority : p.priority ≡ least_priority
  pub above : 2 ≤ p.id
  pub within : last ≤ length rs
  pub inside : IsInside rs p.id last

-- it is so, or no start, and has such a priority
abbrev pub IsOfKind : (ℤ → Type 0) → ℕ → List Record → Pending → Option ℕ → Type 0
IsOfKind S clock rs p None = S p.priority
IsOfKind S clock rs p (Some last) = IsStart clock rs p last

-- an event was inserted, and is of a module that was created
pub record IsFine (S : ℤ → Type 0) (clock next : ℕ) (rs : List Record) (p : Pending) : Type 0 where
  pub number : p.number < next
  pub id : p.id ≤ length rs
  pub kind : IsOfKind S clock rs p (last_started p.what)

-- A MODULE IS AWAITED: one of these events is its start, and was inserted before all others of them
-- that are for it
pub record IsAwaited (ps : List Pending) (k : ℕ) : Type 0 where
  pub start : Pending
  pub there : IsThere start ps
  pub last : ℕ
  pub starts : last_started start.what ≡ Some last
  pub from : start.id ≤ k
  pub to : k ≤ last
  pub behind : Each (λ (p : Pending). p.id ≡ k → last_started p.what ≡ None → start.number < p.number) ps

-- what holds of a world between two steps of an event: each module that lives and was not started is
-- awaited, and what stands was started
pub record IsAwaiting (S : ℤ → Type 0) (clock next : ℕ) (rs : List Record) (live begun : List ℕ) (ps : List Pending) (held : List Instance) : Type 0 where
  pub fine : Each (IsFine S clock next rs) ps
  pub waits : (k : ℕ) → among k live ≡ true → among k begun ≡ false → IsAwaited ps k
  pub stands : Each (λ (i : Instance). among i.id begun ≡ true) held
  pub within : Each (IsWithin rs live 33) live

abbrev pub Waits : (ℤ → Type 0) → World → Type 0
Waits S w = IsAwaiting S w.clock w.next w.records (live_of w) w.started w.pending w.modules

-- the same while the module with that first id is created: it is so of those before it, no event is
-- for it or one after it, and all those are inside of it
pub record IsMaking (S : ℤ → Type 0) (first clock next : ℕ) (rs : List Record) (live begun : List ℕ) (ps : List Pending) (held : List Instance) : Type 0 where
  pub fine : Each (IsFine S clock next rs) ps
  pub old : Each (λ (p : Pending). p.id < first) ps
  pub waits : (k : ℕ) → k < first → among k live ≡ true → among k begun ≡ false → IsAwaited ps k
  pub stands : Each (λ (i : Instance). among i.id begun ≡ true) held
  pub inside : (k : ℕ) (r : Record) → first < k → record_at rs k ≡ Some r → (first ≤ r.parent) × (r.parent ≤ length rs)
  pub above : 2 ≤ first
  pub there : first ≤ length rs

abbrev pub Made : (ℤ → Type 0) → ℕ → World → Type 0
Made S first w = IsMaking S first w.clock w.next w.records (live_of w) w.started w.pending w.modules

abbrev pub Making : (ℤ → Type 0) → ℕ → World → Type 0
Making S first w = Made S first w × AreWithin 33 w

-- where a module lives, the first of those that it is created with does
reaches : (rs : List Record) (live : List ℕ) (first last : ℕ) → 2 ≤ first → IsInside rs first last → (n k : ℕ) → first ≤ k → k ≤ last → IsWithin rs live n k → IsAmong first live
reaches rs live first last above inside zero k l u h = absurd h
reaches rs live first last above inside (suc n) k l u (inl one) = absurd (omega (arith, one, l, above))
reaches rs live first last above inside (suc n) k l u (inr h) = by (eq-or-lt_of_le l) (λ r from to p. reaches rs live first last above inside n r.parent from to p)
  where
    up : (o : Option Record) → record_at rs k ≡ o → first < k → ParentIs (IsWithin rs live n) o → ((r : Record) → first ≤ r.parent → r.parent ≤ last → IsWithin rs live n r.parent → IsAmong first live) → IsAmong first live
    up None e lt p later = absurd p
    up (Some r) e lt p later = let g = inside k r lt u e in later r g.0 g.1 p

    by : (first ≡ k) ⊎ (first < k) → ((r : Record) → first ≤ r.parent → r.parent ≤ last → IsWithin rs live n r.parent → IsAmong first live) → IsAmong first live
    by (inl same) later = subst (λ i. IsAmong i live) (sym same) h.0
    by (inr lt) later = up (record_at rs k) refl lt h.1 later

pub second_not : (a b : Bool) → (a || b) ≡ false → b ≡ false
second_not true b e = cc
second_not false b e = e

-- one that lives after a deletion is none of those that were deleted
left_out : (w : World) (ids : List ℕ) (k : ℕ) → is_live (gone ids w) k ≡ true → among k ids ≡ false
left_out w ids k e =
    let v : World = gone ids w in
    let none : among k (w.dead ++ ids) ≡ false = not_among k v.dead (and_both (among k (ids_from 1 v.records)) (not (among k v.dead)) (sym (live_is v k) ∙ e)).1 in
    second_not (among k w.dead) (among k ids) (sym (among_append k w.dead ids) ∙ none)

under_all : (parent : ℕ) (bs : List Built) → Each (λ (r : Record). r.parent ≡ parent) (map (record_under parent) bs)
under_all parent [] = tt
under_all parent (b ∷ bs) = (refl, under_all parent bs)

module _ (S : ℤ → Type 0) where
  kind_on : (clock later : ℕ) (rs vs : List Record) → clock ≤ later → length rs ≤ length vs → ((k : ℕ) (r : Record) → k ≤ length rs → record_at vs k ≡ Some r → record_at rs k ≡ Some r)
      → (p : Pending) (o : Option ℕ) → IsOfKind S clock rs p o → IsOfKind S later vs p o
  kind_on clock later rs vs c long same p None h = h
  kind_on clock later rs vs c long same p (Some last) h =
      let t = h.time in
      let n = h.within in
      record {
        time = omega (arith, t, c);
        priority = h.priority;
        above = h.above;
        within = omega (arith, n, long);
        inside = λ k r l u e. h.inside k r l u (same k r (omega (arith, u, n)) e);
      }

  -- what was so is so later, and where more was created
  pub fine_on : (clock later next above : ℕ) (rs vs : List Record) → clock ≤ later → next ≤ above → length rs ≤ length vs → ((k : ℕ) (r : Record) → k ≤ length rs → record_at vs k ≡ Some r → record_at rs k ≡ Some r)
      → (p : Pending) → IsFine S clock next rs p → IsFine S later above vs p
  fine_on clock later next above rs vs c n long same p h =
      let number = h.number in
      let id = h.id in
      record { number = omega (arith, number, n); id = omega (arith, id, long); kind = kind_on clock later rs vs c long same p (last_started p.what) h.kind }

  -- the same, of all
  pub all_later : (clock later next above : ℕ) (rs : List Record) (ps : List Pending) → clock ≤ later → next ≤ above → Each (IsFine S clock next rs) ps → Each (IsFine S later above rs) ps
  all_later clock later next above rs ps c n h = each_map (IsFine S clock next rs) (IsFine S later above rs) ps (fine_on clock later next above rs rs c n (omega arith) (λ k r l e. e)) h

  all_more : (clock next : ℕ) (rs more : List Record) (ps : List Pending) → Each (IsFine S clock next rs) ps → Each (IsFine S clock next (rs ++ more)) ps
  all_more clock next rs more ps h =
      let rises = length-append rs more in
      each_map (IsFine S clock next rs) (IsFine S clock next (rs ++ more)) ps (fine_on clock clock next next rs (rs ++ more) (omega arith) (omega arith) (omega (arith, rises)) (λ k r l e. record_before rs more k r l e)) h

  pub start_of : (clock next : ℕ) (rs : List Record) (ps : List Pending) (p : Pending) (last : ℕ) → Each (IsFine S clock next rs) ps → IsThere p ps → last_started p.what ≡ Some last → IsStart clock rs p last
  start_of clock next rs ps p last h i e = subst (IsOfKind S clock rs p) e (each_at (IsFine S clock next rs) p ps h i).kind

  pub plain_of : (clock next : ℕ) (rs : List Record) (p : Pending) → last_started p.what ≡ None → IsFine S clock next rs p → S p.priority
  plain_of clock next rs p e h = subst (IsOfKind S clock rs p) e h.kind

  -- ---- one more event, and one less

  waits_inserted : (e : Pending) (w : World) → e.number ≡ w.next → IsPlain S e → is_live w e.id ≡ true → Waits S w → Waits S (record w { pending = inserted e w.pending; next = w.next + 1 })
  waits_inserted e w n plain live h =
      let known = live_within w e.id live in
      record {
        fine = each_inserted (IsFine S w.clock (w.next + 1) w.records) e w.pending
            (record { number = omega (arith, n); id = known; kind = subst (IsOfKind S w.clock w.records e) (sym plain.0) plain.1 })
            (all_later w.clock w.clock w.next (w.next + 1) w.records w.pending (omega arith) (omega arith) h.fine);
        waits = λ k lives fresh.
            let a = h.waits k lives fresh in
            let below = (each_at (IsFine S w.clock w.next w.records) a.start w.pending h.fine a.there).number in
            record {
              start = a.start;
              there = there_inserted e a.start w.pending a.there;
              last = a.last;
              starts = a.starts;
              from = a.from;
              to = a.to;
              behind = each_inserted (λ (p : Pending). p.id ≡ k → last_started p.what ≡ None → a.start.number < p.number) e w.pending (λ i o. omega (arith, below, n)) a.behind;
            };
        stands = h.stands;
        within = h.within;
      }

  waits_cancelled : (id timer : ℕ) (w : World) → Waits S w → Waits S (with_cancelled id timer w)
  waits_cancelled id timer w h = record {
    fine = each_without (IsFine S w.clock w.next w.records) id timer w.pending h.fine;
    waits = λ k lives fresh.
        let a = h.waits k lives fresh in
        record {
          start = a.start;
          there = there_without id timer a.last a.start w.pending a.starts a.there;
          last = a.last;
          starts = a.starts;
          from = a.from;
          to = a.to;
          behind = each_without (λ (p : Pending). p.id ≡ k → last_started p.what ≡ None → a.start.number < p.number) id timer w.pending a.behind;
        };
    stands = h.stands;
    within = h.within;
  }

  waits_called : (id : ℕ) (state : List ℕ) (w : World) → Waits S w → Waits S (changed id state w)
  waits_called id state w h = record { fine = h.fine; waits = h.waits; stands = each_state (λ k. among k w.started ≡ true) id state w.modules h.stands; within = h.within }

  -- ---- modules that are deleted

  start_left : (target k : ℕ) (w : World) → Waits S w → (a : IsAwaited w.pending k) → AreWithin 33 (gone (subtree_of target w) w) → is_live (gone (subtree_of target w) w) k ≡ true → not (among a.start.id (subtree_of target w)) ≡ true
  start_left target k w h a within lives =
      let v : World = gone (subtree_of target w) w in
      let s = start_of w.clock w.next w.records w.pending a.start a.last h.fine a.there a.starts in
      let stands : IsWithin v.records (live_of v) 33 k = each_there (IsWithin v.records (live_of v) 33) k (live_of v) within (among_is k (live_of v) lives) in
      let first = reaches v.records (live_of v) a.start.id a.last s.above s.inside 33 k a.from a.to stands in
      ap not (left_out w (subtree_of target w) a.start.id (is_among a.start.id (live_of v) first))

  waits_gone : (target : ℕ) (w : World) → is_live w target ≡ true → Fits w → Waits S w → Waits S (gone (subtree_of target w) w)
  waits_gone target w live f h =
      let v : World = gone (subtree_of target w) w in
      let ids : List ℕ = subtree_of target w in
      let within = gone_within 33 target w (omega arith) f live h.within in
      record {
        fine = each_filter (IsFine S w.clock w.next w.records) (IsFine S w.clock w.next w.records) (λ (p : Pending). not (among p.id ids)) w.pending (λ p g x. g) h.fine;
        waits = λ k lives fresh.
            let a = h.waits k (lived w v ids k refl (live_within v k lives) lives) fresh in
            record {
              start = a.start;
              there = there_filter (λ (p : Pending). not (among p.id ids)) a.start w.pending (start_left target k w h a within lives) a.there;
              last = a.last;
              starts = a.starts;
              from = a.from;
              to = a.to;
              behind = each_filter (λ (p : Pending). p.id ≡ k → last_started p.what ≡ None → a.start.number < p.number) (λ (p : Pending). p.id ≡ k → last_started p.what ≡ None → a.start.number < p.number) (λ (p : Pending). not (among p.id ids)) w.pending (λ p g x. g) a.behind;
            };
        stands = each_filter (λ (i : Instance). among i.id w.started ≡ true) (λ (i : Instance). among i.id w.started ≡ true) (λ (i : Instance). not (among i.id ids)) w.modules (λ i g x. g) h.stands;
        within = within;
      }

  -- ---- a module that is created

  waits_created : (parent : ℕ) (c : Creation) (class : Option (List ℕ)) (w : World) → is_live w parent ≡ true → is_full (levels_in parent w) ≡ false → Fits w → Waits S w → Making S (suc (length w.records)) (with_created parent c class w)
  waits_created parent c class w live deep f h =
      let v : World = with_created parent c class w in
      let more : List Record = record_for parent c class ∷ [] in
      let rises = length-append w.records more in
      let some = one_there w parent live in (
        record {
          fine = all_more w.clock w.next w.records more w.pending h.fine;
          old = each_map (IsFine S w.clock w.next w.records) (λ (p : Pending). p.id < suc (length w.records)) w.pending (λ p g. let l = g.id in omega (arith, l)) h.fine;
          waits = λ k l lives fresh. h.waits k (lived w v [] k (sym (append-nil w.dead)) (omega (arith, l)) lives) fresh;
          stands = h.stands;
          inside = λ k r l e. let u = record_within v.records k r e in absurd (omega (arith, l, u, rises));
          above = omega (arith, some);
          there = omega (arith, rises);
        },
        created_within parent c class w live deep f h.within,
      )

  made_more : (first parent : ℕ) (bs : List Built) (w : World) → first ≤ parent → parent ≤ length w.records → Made S first w → Made S first (with_submodules parent bs w)
  made_more first parent bs w from p h =
      let v : World = with_submodules parent bs w in
      let more : List Record = map (record_under parent) bs in
      let rises = length-append w.records more in
      let some = h.there in
      record {
        fine = all_more w.clock w.next w.records more w.pending h.fine;
        old = h.old;
        waits = λ k l lives fresh. h.waits k l (lived w v [] k (sym (append-nil w.dead)) (omega (arith, l, some)) lives) fresh;
        stands = h.stands;
        inside = λ k r l e.
            ⊎_elim
            (λ (was : record_at w.records k ≡ Some r). let g = h.inside k r l was in (g.0, omega (arith, g.1, rises)))
            (λ (same : r.parent ≡ parent). (omega (arith, same, from), omega (arith, same, p, rises)))
            (record_of (λ (r : Record). r.parent ≡ parent) w.records more k r (under_all parent bs) e);
        above = h.above;
        there = omega (arith, some, rises);
      }

  made_on : (first : ℕ) → IsBuiltOn first (Made S first)
  made_on first = record { asked = λ id w h. h; created = λ parent bs w from p h. made_more first parent bs w from p h }

  making_set_up : (m : Answers) (depth first : ℕ) (w : World) → is_live w first ≡ true → HasLevels depth first w → Fits w → Making S first w → Stays (Making S first) (set_up depth m first w)
  making_set_up m depth first w live levels f h =
      both_stay (Made S first) (AreWithin 33) (set_up depth m first w)
      (set_up_on first (Made S first) (made_on first) depth m w (live_within w first live) h.0)
      (set_up_within m depth first w live levels f h.1)

  -- ---- its start

  start_waits : (first : ℕ) (w : World) → is_live w first ≡ true → Making S first w → Waits S (with_start first w)
  start_waits first w live h =
      let e : Pending = record { time = w.clock; priority = least_priority; number = w.next; id = first; what = happening.Start (length w.records) } in
      let m = h.0 in
      record {
        fine = each_inserted (IsFine S w.clock (w.next + 1) w.records) e w.pending
            (record { number = omega arith; id = m.there; kind = record { time = omega arith; priority = refl; above = m.above; within = omega arith; inside = λ k r l u g. m.inside k r l g } })
            (all_later w.clock w.clock w.next (w.next + 1) w.records w.pending (omega arith) (omega arith) m.fine);
        waits = λ k lives fresh. by k lives fresh (nat_lt k first) refl;
        stands = m.stands;
        within = h.1;
      }
    where
      e : Pending
      e = record { time = w.clock; priority = least_priority; number = w.next; id = first; what = happening.Start (length w.records) }

      by : (k : ℕ) → is_live w k ≡ true → among k w.started ≡ false → (t : Bool) → nat_lt k first ≡ t → IsAwaited (inserted e w.pending) k
      by k lives fresh true t =
          let a = h.0.waits k (ltb-true k first t) lives fresh in
          record {
            start = a.start;
            there = there_inserted e a.start w.pending a.there;
            last = a.last;
            starts = a.starts;
            from = a.from;
            to = a.to;
            behind = each_inserted (λ (p : Pending). p.id ≡ k → last_started p.what ≡ None → a.start.number < p.number) e w.pending (λ i o. cc) a.behind;
          }
      by k lives fresh false t =
          let above = ltb-false k first t in
          record {
            start = e;
            there = inserted_there e w.pending;
            last = length w.records;
            starts = refl;
            from = above;
            to = live_within w k lives;
            behind = each_inserted (λ (p : Pending). p.id ≡ k → last_started p.what ≡ None → w.next < p.number) e w.pending (λ i o. cc)
                (each_map (λ (p : Pending). p.id < first) (λ (p : Pending). p.id ≡ k → last_started p.what ≡ None → w.next < p.number) w.pending (λ p l i o. absurd (omega (arith, l, i, above))) h.0.old);
          }

  -- ALL STEPS keep it
  pub keeps : (m : Answers) → Keeps m S (Waits S) (Making S)
  keeps m = record {
    asks = λ q w h. h;
    emitted = λ e w h. h;
    recorded = λ s w h. h;
    inserted = waits_inserted;
    cancelled = waits_cancelled;
    transmitted = λ ts w h. h;
    joined = λ g to w h. h;
    ended = λ w h. h;
    called = waits_called;
    finished = λ id w h. h;
    gone = waits_gone;
    created = waits_created;
    asks_within = λ first q w h. h;
    set_up = making_set_up m;
    waits = start_waits;
  }
