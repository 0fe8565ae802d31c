-- What lasts through each event, whatever the model answers and the modules reply.
use Rattle.std.proofs.Common.{◌≡◌, ℕ, zero, suc, ◌+◌, ◌≤◌, ◌==◌, Bool, true, false, not, ◌||◌, ◌&&◌, List, [], ◌∷◌, ◌++◌, Option, Some, None, Result, Ok, Err, refl, sym, ap, ◌∙◌, arith, subst, length, slice_get, if◌then◌else◌, nat_le, nat_lt, ltb-false, ℤ, eq-eqb}
use Rattle.sim_time.specs.Time.{time_sum}
use Rattle.channels.specs.declared.travels.ChannelFault.{ChannelFault}
use Rattle.channels.specs.declared.travels.Travel.{Travel}
use Rattle.channels.specs.declared.travels.Travel.TheVariants.{Arrival, Lost}
use Rattle.channels.specs.Travel.{travel}
use Rattle.channels.proofs.Walks.{travel_time}
use Rattle.event_set.proofs.Order.{each_map}
use Rattle.event_set.specs.Order.{inserted}
use Rattle.event_set.specs.Timers.{has_timer}
use Rattle.event_set.specs.declared.pending.Happening.{Happening}
use Rattle.event_set.specs.declared.pending.Happening.TheVariants as happening
use Rattle.event_set.specs.declared.pending.Pending.{Pending}
use Rattle.module_api.specs.Actions.{has_large_payload, is_large}
use Rattle.module_api.specs.Behaviour.{Behaviour, Replied}
use Rattle.module_api.specs.Names.{is_module_name, is_scalar_name}
use Rattle.module_api.specs.declared.call.CallReason.{CallReason}
use Rattle.module_api.specs.declared.call.CallReason.TheVariants as prompt
use Rattle.module_api.specs.declared.message.Outgoing.{Outgoing}
use Rattle.module_api.specs.declared.reply.Action.{Action}
use Rattle.module_api.specs.declared.reply.Action.TheVariants.{Emit, RecordScalar, Send, SendDelayed, SendDirect, ScheduleAt, ScheduleAfter, Cancel, Create, Delete, Connect, Disconnect, End, Fail}
use Rattle.module_api.specs.declared.reply.Creation.{Creation}
use Rattle.module_api.specs.declared.reply.Flight.{Flight}
use Rattle.module_api.specs.declared.reply.GatePlace.{GatePlace}
use Rattle.module_api.specs.declared.reply.Link.{Link}
use Rattle.module_api.specs.declared.reply.OwnGate.{OwnGate}
use Rattle.module_api.specs.declared.reply.Read.{Read}
use Rattle.module_api.specs.declared.reply.Read.TheVariants as read
use Rattle.module_api.specs.declared.reply.Reply.{Reply}
use Rattle.module_api.specs.declared.reply.Schedule.{Schedule}
use Rattle.model_questions.specs.declared.answer.Answer.{Answer}
use Rattle.model_questions.specs.declared.answer.Answer.TheVariants as answer
use Rattle.model_questions.specs.declared.answer.Built.{Built}
use Rattle.model_questions.specs.declared.answer.Question.{Question}
use Rattle.model_questions.specs.declared.answer.Question.TheVariants.{Build, GateSize, Hop, HopBack, TypeOf}
use Rattle.model_questions.specs.declared.record.Record.{Record}
use Rattle.model_questions.specs.Answers.{Answers, answer_of}
use Rattle.model_questions.specs.Records.{lineage_up, place_of}
use Rattle.model_questions.proofs.AnswerLemmas.{about, last_line}
use Rattle.run_semantics.specs.declared.occasions.Occasion.{Occasion}
use Rattle.run_semantics.specs.declared.occasions.Occasion.TheVariants as occasion
use Rattle.run_semantics.specs.declared.outcome.RunFault.{RunFault}
use Rattle.run_semantics.specs.declared.outcome.RunFault.TheVariants as fault
use Rattle.run_semantics.specs.declared.routes.GateChange.{GateChange}
use Rattle.run_semantics.specs.declared.routes.NextHop.{NextHop}
use Rattle.run_semantics.specs.declared.routes.PassedHop.{PassedHop}
use Rattle.run_semantics.specs.declared.routes.PlacedGate.{PlacedGate}
use Rattle.run_semantics.specs.declared.routes.Transmission.{Transmission}
use Rattle.run_semantics.specs.declared.traces.Emission.{Emission}
use Rattle.run_semantics.specs.declared.traces.Instance.{Instance}
use Rattle.run_semantics.specs.declared.traces.Scalar.{Scalar}
use Rattle.run_semantics.specs.World.{World, asked, is_live, live_of}
use Rattle.run_semantics.specs.Routes.{arriving, arriving_at, busy_of, change_of, channels_of, first_from, hop_by, if_live, is_at, is_in_gate, is_out_gate, is_simple, is_taken, module_at, transmission_gate, transmitting, with_change}
use Rattle.run_semantics.specs.Perform.{Flow, On, Stopped, Broken, ◌>>=◌, for_each, asking, broken, scheduled_at, scheduled, with_cancelled, with_scalar, deed, hop_after, next_hop, past_last, with_hop, after_hop, chain, most_hops, travelled, sent_over, sent, entering, flight_end, entered, sent_into, sent_to, question_of, ask_all, read_fault, is_allowed, act, act_all, acted, ask_noted, unless_fault, answered_by, perform, answered, call_module}
use Rattle.run_semantics.specs.Calls.{call_of, instance_in, changed, called}
use Rattle.run_semantics.specs.Finishing.{call_last, with_finished, marked, finish, finish_all}
use Rattle.run_semantics.specs.Deleting.{subtree_of, to_finish_in, finished_first, gone, subtree_dropped, deleted_at}
use Rattle.run_semantics.specs.Joining.{gate_at, channel_by, joined, joined_free, joined_into, joined_from, joined_to, joined_at, freed, freed_from, freed_at}
use Rattle.run_semantics.specs.Creating.{least_priority, with_start, awaiting, record_for, class_in, with_created, class_answer, creating, built_by, built_as, has_namesake, is_full, levels_in, created_in}
use Rattle.run_semantics.specs.Run.{with_submodules, room_in, set_up, most_nested, Part, needs_of, placed, first_unknown, unless_unknown, stages_in, most_stages, initialize, one_stage, stages_from, with_started, started, start_modules, starting, unstarted}
use Rattle.run_semantics.specs.Event.{begun, event, happens, message_of}
use Rattle.run_semantics.specs.Laws.{Each}
use Rattle.run_semantics.specs.Subtree.{among, ids_from, outer_first, stands_in}
use Rattle.run_semantics.proofs.Alive.{among_filter, and_both, and_of, each_among, live_gone, live_is, live_last, live_more, live_of_filter, live_within, not_among}
use Rattle.run_semantics.proofs.Flows.{in_flow}
use Rattle.run_semantics.proofs.Growth.{Fits, fits_beside, found_live, fits_changed, fits_more, fits_gone, fits_asked, fits_placed, fits_built, nested_last}
use Rattle.run_semantics.proofs.Sending.{sum_is_after, flight_later}
use Rattle.run_semantics.proofs.Setting.{IsLasting, Stays, stays_as, set_up_stays}

-- from the first of two worlds that fit to the second
abbrev pub Step : (World → Type 0) → World → World → Type 0
Step P w v = Fits w → Fits v → P w → P v

-- all of these live
abbrev pub AreLive : World → List ℕ → Type 0
AreLive w ids = (k : ℕ) → among k ids ≡ true → is_live w k ≡ true

-- none of these was started
abbrev pub AreNew : World → List ℕ → Type 0
AreNew w ids = (k : ℕ) → among k ids ≡ true → among k w.started ≡ false

-- a start leaves it
abbrev pub StartLeaves : Behaviour → (World → Type 0) → Type 0
StartLeaves b P = (ids : List ℕ) (w : World) → first_unknown b (needs_of ids w) ≡ None → AreLive w ids → AreNew w ids → Step P w (with_started ids (placed b (needs_of ids w) w))

-- there are so many levels for a module and what is to stand in it
abbrev pub HasLevels : ℕ → ℕ → World → Type 0
HasLevels depth id w = length (lineage_up 33 w.records id) + depth ≤ 33

-- the setup of a module that lives leaves it
abbrev pub SetupLeaves : Answers → (World → Type 0) → Type 0
SetupLeaves m P = (depth id : ℕ) (w : World) → is_live w id ≡ true → HasLevels depth id w → Fits w → P w → Stays P (set_up depth m id w)

-- A PROPERTY LASTS through all that happens in a run of that model where it lasts through each of
-- these steps.
pub record Lasts (b : Behaviour) (m : Answers) (P : World → Type 0) : Type 0 where
  pub asked : (q : Question) (w : World) → about q ≤ length w.records → Step P w (asked q w)
  pub emitted : (e : Emission) (w : World) → e.event ≡ w.count → e.time ≡ w.clock → Step P w (record w { emissions = w.emissions ++ e ∷ [] })
  pub recorded : (s : Scalar) (w : World) → Step P w (record w { scalars = w.scalars ++ s ∷ [] })
  pub inserted : (e : Pending) (w : World) → e.number ≡ w.next → w.clock ≤ e.time → is_live w e.id ≡ true → length (message_of e).payload ≤ 4096 → Step P w (record w { pending = inserted e w.pending; next = w.next + 1 })
  pub cancelled : (id timer : ℕ) (w : World) → Step P w (with_cancelled id timer w)
  pub transmitted : (ts : List Transmission) (w : World) → Step P w (record w { transmissions = ts })
  pub joined : (g : PlacedGate) (to : Option NextHop) (w : World) → Step P w (with_change g to w)
  pub ended : (w : World) → Step P w (record w { ended = true })
  pub called : (id : ℕ) (reason : CallReason) (i : Instance) (w : World) → instance_in id w.modules ≡ Some i → Step P w (changed id ((b.naming i.kind).reply i.state (call_of m id reason w)).state w)
  pub finished : (id : ℕ) (w : World) → Step P w (with_finished id w)
  pub gone : (target : ℕ) (w : World) → is_live w target ≡ true → Step P w (gone (subtree_of target w) w)
  pub created : (parent : ℕ) (c : Creation) (class : Option (List ℕ)) (w : World) → is_live w parent ≡ true → is_full (room_in w) ≡ false → is_full (levels_in parent w) ≡ false → Step P w (with_created parent c class w)
  pub set_up : SetupLeaves m P
  pub started : StartLeaves b P

-- a setup leaves what lasts through its two steps
pub by_steps : (m : Answers) (P : World → Type 0) → ((id : ℕ) (w : World) → id ≤ length w.records → Step P w (asked (Build id) w))
    → ((parent : ℕ) (bs : List Built) (w : World) → parent ≤ length w.records → slice_get bs (room_in w) ≡ None → Step P w (with_submodules parent bs w)) → SetupLeaves m P
by_steps m P asks builds depth id w live levels f p =
    stays_as (λ v. (Fits v × P v) × (0 ≤ length v.records)) P (set_up depth m id w) (λ v h. h.0.1)
    (set_up_stays (λ v. Fits v × P v) (record {
      asked = λ k v h n. let g = fits_asked (Build k) v h.0 n in (g, asks k v n h.0 g h.1);
      created = λ parent bs v h n few. let g = fits_built parent bs v h.0 n in (g, builds parent bs v n few h.0 g h.1);
    }) depth m 0 id w (f, p) (omega arith) (live_within w id live))

-- through a setup everything fits, and these live
lives_on : (ks : List ℕ) → IsLasting (λ w. Fits w × Each (λ k. is_live w k ≡ true) ks)
lives_on ks = record {
  asked = λ id w h n. (fits_asked (Build id) w h.0 n, h.1);
  created = λ parent bs w h n few.
      let v : World = with_submodules parent bs w in
      (fits_built parent bs w h.0 n, each_map (λ k. is_live w k ≡ true) (λ k. is_live v k ≡ true) ks (λ k e. live_more w v _ k refl refl e) h.1);
}

-- ---- the levels of a module that is created

pub not_full : (n : ℕ) → is_full n ≡ false → 1 ≤ n
not_full zero e = cc
not_full (suc n) e = omega arith

-- it has those that are left in the module around it
pub created_levels : (parent : ℕ) (c : Creation) (class : Option (List ℕ)) (w : World) → Fits w → parent ≤ length w.records → is_full (levels_in parent w) ≡ false → HasLevels (levels_in parent w) (suc (length w.records)) (with_created parent c class w)
unfolding place_of most_nested
created_levels parent c class w f l e =
    let line = ap length (last_line 32 w.records (record_for parent c class) f.nested l) in
    let some = not_full (levels_in parent w) e in
    omega (arith, line, some)

-- ---- a module that is found by its path lives

first_found : (test : ℕ → Bool) (id k : ℕ) (rs : List Record) → first_from test id rs ≡ Some k → (among k (ids_from id rs) ≡ true) × (test k ≡ true)
first_found test id k [] e = cc
first_found test id k (r ∷ rs) e = by (test id) refl (first_found test (suc id) k rs) e
  where
    later : (t : Bool) → among k (ids_from (suc id) rs) ≡ true → (t || among k (ids_from (suc id) rs)) ≡ true
    later true e = refl
    later false e = e

    by : (t : Bool) → test id ≡ t → (first_from test (suc id) rs ≡ Some k → (among k (ids_from (suc id) rs) ≡ true) × (test k ≡ true)) → (if t then Some id else first_from test (suc id) rs) ≡ Some k → (among k (ids_from id (r ∷ rs)) ≡ true) × (test k ≡ true)
    by true t next e = let same : id ≡ k = cc in subst (λ n. (among n (ids_from id (r ∷ rs)) ≡ true) × (test n ≡ true)) same (ap (λ c. c || among id (ids_from (suc id) rs)) (eq-eqb id id refl), t)
    by false t next e = (later (id == k) (next e).0, (next e).1)

pub module_live : (path : List ℕ) (w : World) (k : ℕ) → module_at path w ≡ Some k → is_live w k ≡ true
module_live path w k e =
    let h = first_found (is_at path w) 1 k w.records e in
    live_is w k ∙ and_of (among k (ids_from 1 w.records)) (not (among k w.dead)) h.0 (and_both _ (not (among k w.dead)) h.1).1

-- ---- a hop leads to a module that lives

abbrev pub LiveTo : World → Option NextHop → Type 0
LiveTo w None = Unit {0}
LiveTo w (Some h) = is_live w h.to.id ≡ true

pub if_live_to : (w : World) (o : Option NextHop) → LiveTo w (if_live w o)
if_live_to w None = tt
if_live_to w (Some h) = by (is_live w h.to.id) refl
  where
    by : (t : Bool) → is_live w h.to.id ≡ t → LiveTo w (if t then Some h else None)
    by true e = e
    by false e = tt

-- ---- the modules that an event starts

pub unstarted_live : (w : World) → AreLive w (unstarted w)
unstarted_live w k e = live_of_filter w (λ id. not (among id w.started)) k e

pub unstarted_new : (w : World) → AreNew w (unstarted w)
unstarted_new w k e = not_among k w.started (and_both (among k (live_of w)) (not (among k w.started)) (sym (among_filter k (λ id. not (among id w.started)) (live_of w)) ∙ e)).1

in_range : (first last : ℕ) (w : World) (k : ℕ) → among k (starting first last w) ≡ true → among k (unstarted w) ≡ true
in_range first last w k e = (and_both (among k (unstarted w)) (nat_le first k && nat_le k last) (sym (among_filter k (λ id. nat_le first id && nat_le id last) (unstarted w)) ∙ e)).0

pub starting_live : (first last : ℕ) (w : World) → AreLive w (starting first last w)
starting_live first last w k e = unstarted_live w k (in_range first last w k e)

pub starting_new : (first last : ℕ) (w : World) → AreNew w (starting first last w)
starting_new first last w k e = unstarted_new w k (in_range first last w k e)

-- without the modules below one, everything fits still
pub fits_without : (target : ℕ) (w : World) → Fits w → Fits (gone (subtree_of target w) w)
fits_without target w f =
    fits_gone w (subtree_of target w) f (each_among (λ k. k ≤ length w.records) (subtree_of target w) (λ k e. live_within w k (live_of_filter w (λ n. stands_in w.records target n) k e)))

module _ (b : Behaviour) (m : Answers) (P : World → Type 0) (l : Lasts b m P) where
  abbrev pub Holds : World → Type 0
  Holds w = Fits w × P w

  -- the property holds, and these live
  abbrev pub Goes : List ℕ → World → Type 0
  Goes ks w = Holds w × Each (λ k. is_live w k ≡ true) ks

  -- where the flow goes on these live, and the property holds in its world
  abbrev pub Ends : List ℕ → Flow → Type 0
  Ends ks (On w) = Goes ks w
  Ends ks (Stopped w) = Holds w
  Ends ks (Broken w path f) = Holds w

  pub ends_hold : (ks : List ℕ) (fl : Flow) → Ends ks fl → Holds (in_flow fl)
  ends_hold ks (On w) h = h.0
  ends_hold ks (Stopped w) h = h
  ends_hold ks (Broken w path f) h = h

  then_ends : (ks : List ℕ) (fl : Flow) (k : World → Flow) → Ends ks fl → ((w : World) → Goes ks w → Ends ks (k w)) → Ends ks (fl >>= k)
  then_ends ks (On w) k h f = f w h
  then_ends ks (Stopped w) k h f = h
  then_ends ks (Broken w path e) k h f = h

  either_ends : (ks : List ℕ) (c : Bool) (f g : Flow) → (c ≡ true → Ends ks f) → (c ≡ false → Ends ks g) → Ends ks (if c then f else g)
  either_ends ks true f g h k = h refl
  either_ends ks false f g h k = k refl

  fewer_end : (k : ℕ) (ks : List ℕ) (fl : Flow) → Ends (k ∷ ks) fl → Ends ks fl
  fewer_end k ks (On w) h = (h.0, h.1.1)
  fewer_end k ks (Stopped w) h = h
  fewer_end k ks (Broken w path e) h = h

  -- ---- steps that leave who lives

  beside_goes : (ks : List ℕ) (w : World) (q : Question) → Goes ks w → about q ≤ length w.records → Goes ks (asked q w)
  beside_goes ks w q h n = let f = fits_asked q w h.0.0 n in ((f, l.asked q w n h.0.0 f h.0.1), h.1)

  asking_ends : (ks : List ℕ) (q : Question) (next : Answer → World → Flow) (w : World) → Goes ks w → about q ≤ length w.records → ((a : Answer) → Goes ks (asked q w) → Ends ks (next a (asked q w))) → Ends ks (asking m q next w)
  asking_ends ks q next w h n f = f (answer_of m w.records q) (beside_goes ks w q h n)

  inserted_goes : (ks : List ℕ) (e : Pending) (w : World) → e.number ≡ w.next → w.clock ≤ e.time → is_live w e.id ≡ true → length (message_of e).payload ≤ 4096 → Goes ks w → Goes ks (record w { pending = inserted e w.pending; next = w.next + 1 })
  inserted_goes ks e w n t live short h = let f = fits_beside w (record w { pending = inserted e w.pending; next = w.next + 1 }) h.0.0 refl refl refl refl in ((f, l.inserted e w n t live short h.0.0 f h.0.1), h.1)

  -- ---- deeds

  timer_ends : (ks : List ℕ) (id timer : ℕ) (priority kind : ℤ) (w : World) (time : ℕ) → w.clock ≤ time → is_live w id ≡ true → Goes ks w → Ends ks (scheduled_at id timer priority kind w time)
  timer_ends ks id timer priority kind w time n live h =
      either_ends ks (has_timer id timer w.pending) _ _ (λ e. h.0)
      (λ e. inserted_goes ks (record { time = time; priority = priority; number = w.next; id = id; what = happening.Timer timer kind }) w refl n live (omega arith) h)

  scheduled_ends : (ks : List ℕ) (id : ℕ) (s : Schedule) (w : World) (found : Option ℕ) → time_sum w.clock s.delay ≡ found → is_live w id ≡ true → Goes ks w → Ends ks (scheduled id s w found)
  scheduled_ends ks id s w None e live h = h.0
  scheduled_ends ks id s w (Some time) e live h = timer_ends ks id s.timer s.priority s.kind w time (sum_is_after w.clock s.delay time e) live h

  pub deed_ends : (ks : List ℕ) (id : ℕ) (action : Action) (w : World) → is_live w id ≡ true → Goes ks w → Ends ks (deed id action w)
  deed_ends ks id (Emit signal value) w live h =
      let e : Emission = record { id = id; signal = signal; event = w.count; time = w.clock; value = value } in
      let f = fits_beside w (record w { emissions = w.emissions ++ e ∷ [] }) h.0.0 refl refl refl refl in
      ((f, l.emitted e w refl refl h.0.0 f h.0.1), h.1)
  deed_ends ks id (RecordScalar name value) w live h =
      either_ends ks (is_scalar_name name) (On (with_scalar id name value w)) (broken id fault.BadName w)
      (λ e. let f = fits_beside w (with_scalar id name value w) h.0.0 refl refl refl refl in ((f, l.recorded (record { id = id; name = name; value = value }) w h.0.0 f h.0.1), h.1)) (λ e. h.0)
  deed_ends ks id (ScheduleAt a) w live h =
      either_ends ks (nat_lt a.at w.clock) (broken id fault.Past w) (scheduled_at id a.timer a.priority a.kind w a.at) (λ e. h.0)
      (λ e. timer_ends ks id a.timer a.priority a.kind w a.at (ltb-false a.at w.clock e) live h)
  deed_ends ks id (ScheduleAfter s) w live h = scheduled_ends ks id s w (time_sum w.clock s.delay) refl live h
  deed_ends ks id (Cancel timer) w live h = let f = fits_beside w (with_cancelled id timer w) h.0.0 refl refl refl refl in ((f, l.cancelled id timer w h.0.0 f h.0.1), h.1)
  deed_ends ks id End w live h = let f = fits_beside w (record w { ended = true }) h.0.0 refl refl refl refl in (f, l.ended w h.0.0 f h.0.1)
  deed_ends ks id (Fail text) w live h = h.0
  deed_ends ks id (Create c) w live h = h
  deed_ends ks id (Delete path finish) w live h = h
  deed_ends ks id (Connect from to link) w live h = h
  deed_ends ks id (Disconnect place) w live h = h
  deed_ends ks id (Send gate message) w live h = h
  deed_ends ks id (SendDelayed gate message delay) w live h = h
  deed_ends ks id (SendDirect place message flight) w live h = h

  -- ---- replies

  -- each action that is done so
  abbrev AllEnd : List ℕ → ℕ → (Action → World → Flow) → Type 0
  AllEnd ks id does = (action : Action) (w : World) → has_large_payload action ≡ false → Goes (id ∷ ks) w → Ends (id ∷ ks) (does action w)

  act_ends : (ks : List ℕ) (o : Occasion) (id : ℕ) (does : Action → World → Flow) (action : Action) (w : World) → AllEnd ks id does → Goes (id ∷ ks) w → Ends (id ∷ ks) (act does o id action w)
  act_ends ks o id does action w f h =
      either_ends (id ∷ ks) (has_large_payload action) (broken id fault.PayloadTooLarge w) (if is_allowed o action then does action w else broken id fault.NotInFinish w) (λ e. h.0)
      (λ small. either_ends (id ∷ ks) (is_allowed o action) (does action w) (broken id fault.NotInFinish w) (λ e. f action w small h) (λ e. h.0))

  act_all_ends : (ks : List ℕ) (o : Occasion) (id : ℕ) (does : Action → World → Flow) (actions : List Action) (w : World) → AllEnd ks id does → Goes (id ∷ ks) w → Ends (id ∷ ks) (act_all does o id actions w)
  act_all_ends ks o id does [] w f h = h
  act_all_ends ks o id does (action ∷ actions) w f h =
      then_ends (id ∷ ks) (act does o id action w) (for_each (act does o id) actions) (act_ends ks o id does action w f h) (λ v g. act_all_ends ks o id does actions v f g)

  about_read : (id : ℕ) (r : Read) → about (question_of id r) ≡ id
  about_read id (read.Parameter name) = refl
  about_read id (read.Gate name) = refl

  ask_all_goes : (ks : List ℕ) (id : ℕ) (reads : List Read) (w : World) → Goes (id ∷ ks) w → Goes (id ∷ ks) (ask_all id reads w)
  ask_all_goes ks id [] w h = h
  ask_all_goes ks id (r ∷ rs) w h =
      let n = live_within w id h.1.0 in
      ask_all_goes ks id rs (asked (question_of id r) w) (beside_goes (id ∷ ks) w (question_of id r) h (omega (arith, n, about_read id r)))

  ask_noted_goes : (ks : List ℕ) (o : Occasion) (id : ℕ) (reads : List Read) (w : World) → Goes (id ∷ ks) w → Goes (id ∷ ks) (ask_noted o id reads w)
  ask_noted_goes ks occasion.Event id reads w h = ask_all_goes ks id reads w h
  ask_noted_goes ks occasion.Deletion id reads w h = ask_all_goes ks id reads w h
  ask_noted_goes ks occasion.End id reads w h = h

  unless_ends : (ks : List ℕ) (id : ℕ) (found : Option RunFault) (go : World → Flow) (w : World) → Goes ks w → Ends ks (go w) → Ends ks (unless_fault id found go w)
  unless_ends ks id (Some f) go w h k = h.0
  unless_ends ks id None go w h k = k

  answered_ends : (ks : List ℕ) (o : Occasion) (id : ℕ) (does : Action → World → Flow) (reply : Reply) (w : World) → AllEnd ks id does → Goes (id ∷ ks) w → Ends (id ∷ ks) (answered_by m does o id reply w)
  answered_ends ks o id does reply w f h =
      let v : World = ask_noted o id reply.reads w in
      let g = ask_noted_goes ks o id reply.reads w h in
      unless_ends (id ∷ ks) id (read_fault m w.records id reply.reads) (acted does o id reply.actions) v g
      (either_ends (id ∷ ks) (nat_lt 1000 (length reply.actions)) (broken id fault.TooManyActions v) (act_all does o id reply.actions v) (λ e. g.0) (λ e. act_all_ends ks o id does reply.actions v f g))

  -- ---- calls

  called_ends : (ks : List ℕ) (follow : Reply → World → Flow) (id : ℕ) (reason : CallReason) (w : World) (found : Option Instance) → instance_in id w.modules ≡ found → Goes ks w → ((reply : Reply) (v : World) → Goes (id ∷ ks) v → Ends (id ∷ ks) (follow reply v)) → Ends ks (called b m follow id reason w found)
  called_ends ks follow id reason w None e h f = h
  called_ends ks follow id reason w (Some i) e h f =
      let r : Replied = (b.naming i.kind).reply i.state (call_of m id reason w) in
      let live = found_live id w i h.0.0 e in
      let fits = fits_changed id r.state w h.0.0 in
      fewer_end id ks (follow r.reply (changed id r.state w)) (f r.reply (changed id r.state w) ((fits, l.called id reason i w e h.0.0 fits h.0.1), (live, h.1)))

  finish_ends : (ks : List ℕ) (o : Occasion) (id : ℕ) (w : World) → Goes ks w → Ends ks (finish b m o id w)
  finish_ends ks o id w h =
      then_ends ks (call_last b m o id w) (marked id)
      (called_ends ks (answered_by m (deed id) o id) id prompt.Finish w (instance_in id w.modules) refl h (λ reply v g. answered_ends ks o id (deed id) reply v (λ action u small k. deed_ends (id ∷ ks) id action u k.1.0 k) g))
      (λ v g. let f = fits_beside v (with_finished id v) g.0.0 refl refl refl refl in ((f, l.finished id v g.0.0 f g.0.1), g.1))

  finish_all_ends : (ks : List ℕ) (o : Occasion) (ids : List ℕ) (w : World) → Goes ks w → Ends ks (finish_all b m o ids w)
  finish_all_ends ks o [] w h = h
  finish_all_ends ks o (id ∷ ids) w h = then_ends ks (finish b m o id w) (for_each (finish b m o) ids) (finish_ends ks o id w h) (finish_all_ends ks o ids)

  -- ---- sending

  next_ends : (ks : List ℕ) (g : PlacedGate) (k : Option NextHop → World → Flow) (w : World) → Goes ks w → is_live w g.id ≡ true → ((o : Option NextHop) (v : World) → Goes ks v → v.clock ≡ w.clock → LiveTo v o → Ends ks (k o v)) → Ends ks (next_hop m g k w)
  next_ends ks g k w h live f = by (change_of g w.changes)
    where
      q : Question
      q = Hop g.id g.name g.index

      by : (c : Option GateChange) → Ends ks (hop_after m g k w c)
      by (Some c) = f (if_live w c.to) w h refl (if_live_to w c.to)
      by None =
          let v : World = asked q w in
          let o : Option NextHop = hop_by v.records g.id (answer_of m w.records q) in
          f (if_live v o) v (beside_goes ks w q h (live_within w g.id live)) refl (if_live_to v o)

  -- what is done where a simple module is reached
  abbrev Reaches : List ℕ → ℕ → (List PassedHop → PlacedGate → World → Flow) → Type 0
  Reaches ks clock r = (hops : List PassedHop) (end : PlacedGate) (w : World) → Goes ks w → w.clock ≡ clock → is_live w end.id ≡ true → Ends ks (r hops end w)

  past_ends : (ks : List ℕ) (id : ℕ) (o : Option NextHop) (v : World) → Goes ks v → Ends ks (past_last id o v)
  past_ends ks id None v h = h.0
  past_ends ks id (Some x) v h = h.0

  after_ends : (ks : List ℕ) (id clock : ℕ) (further : PlacedGate → List PassedHop → World → Flow) (r : List PassedHop → PlacedGate → World → Flow) (g : PlacedGate) (passed : List PassedHop) → Reaches ks clock r → ((g : PlacedGate) (passed : List PassedHop) (v : World) → Goes ks v → v.clock ≡ clock → is_live v g.id ≡ true → Ends ks (further g passed v)) → (o : Option NextHop) (v : World) → Goes ks v → v.clock ≡ clock → LiveTo v o → Ends ks (after_hop id further r g passed o v)
  after_ends ks id clock further r g passed f k None v h c to = h.0
  after_ends ks id clock further r g passed f k (Some x) v h c to =
      either_ends ks (is_simple v.records x.to.id) (r (with_hop passed g x) x.to v) (further x.to (with_hop passed g x) v) (λ e. f (with_hop passed g x) x.to v h c to) (λ e. k x.to (with_hop passed g x) v h c to)

  chain_ends : (ks : List ℕ) (id clock : ℕ) (r : List PassedHop → PlacedGate → World → Flow) → Reaches ks clock r → (left : ℕ) (g : PlacedGate) (passed : List PassedHop) (w : World) → Goes ks w → w.clock ≡ clock → is_live w g.id ≡ true → Ends ks (chain m id r left g passed w)
  chain_ends ks id clock r f zero g passed w h c live = next_ends ks g (past_last id) w h live (λ o v k e to. past_ends ks id o v k)
  chain_ends ks id clock r f (suc left) g passed w h c live =
      next_ends ks g (after_hop id (chain m id r left) r g passed) w h live
      (λ o v k e to. after_ends ks id clock (chain m id r left) r g passed f (chain_ends ks id clock r f left) o v k (e ∙ c) to)

  transmitting_goes : (ks : List ℕ) (g : Option PlacedGate) (until : Option ℕ) (w : World) → Goes ks w → Goes ks (transmitting g until w)
  transmitting_goes ks (Some g) (Some until) w h = let v : World = transmitting (Some g) (Some until) w in let f = fits_beside w v h.0.0 refl refl refl refl in ((f, l.transmitted v.transmissions w h.0.0 f h.0.1), h.1)
  transmitting_goes ks (Some g) None w h = h
  transmitting_goes ks None until w h = h

  transmitting_alike : (g : Option PlacedGate) (until : Option ℕ) (w : World) (k : ℕ) → is_live w k ≡ true → is_live (transmitting g until w) k ≡ true
  transmitting_alike (Some g) (Some until) w k e = e
  transmitting_alike (Some g) None w k e = e
  transmitting_alike None until w k e = e

  transmitting_clock : (g : Option PlacedGate) (until : Option ℕ) (w : World) → (transmitting g until w).clock ≡ w.clock
  transmitting_clock (Some g) (Some until) w = refl
  transmitting_clock (Some g) None w = refl
  transmitting_clock None until w = refl

  arriving_goes : (ks : List ℕ) (message : Outgoing) → is_large message ≡ false → (g : PlacedGate) (time : ℕ) (w : World) → Goes ks w → w.clock ≤ time → is_live w g.id ≡ true → Goes ks (arriving g message time w)
  arriving_goes ks message small g time w h c live = inserted_goes ks (arriving_at g message time w.next) w refl c live (ltb-false 4096 (length message.payload) small) h

  travelled_ends : (ks : List ℕ) (id : ℕ) (message : Outgoing) → is_large message ≡ false → (from : Option PlacedGate) (end : PlacedGate) (w : World) (t : Result Travel ChannelFault) → Goes ks w → ((time : ℕ) (until : Option ℕ) → t ≡ Ok (Arrival time until) → w.clock ≤ time) → is_live w end.id ≡ true → Ends ks (travelled id message from end w t)
  travelled_ends ks id message small from end w (Err f) h c live = h.0
  travelled_ends ks id message small from end w (Ok (Lost until)) h c live = transmitting_goes ks from until w h
  travelled_ends ks id message small from end w (Ok (Arrival time until)) h c live =
      let n = c time until refl in
      let same = transmitting_clock from until w in
      arriving_goes ks message small end time (transmitting from until w) (transmitting_goes ks from until w h) (omega (arith, n, same)) (transmitting_alike from until w end.id live)

  -- a departure is not before that time
  abbrev IsLater : ℕ → Option ℕ → Type 0
  IsLater clock departure = (time : ℕ) → departure ≡ Some time → clock ≤ time

  sent_over_ends : (ks : List ℕ) (id clock : ℕ) (message : Outgoing) → is_large message ≡ false → (departure : Option ℕ) → IsLater clock departure → Reaches ks clock (sent_over id message departure)
  sent_over_ends ks id clock message small None later hops end w h c live = h.0
  sent_over_ends ks id clock message small (Some d) later hops end w h c live =
      let on = later d refl in
      let busy = busy_of (transmission_gate hops) w.transmissions in
      travelled_ends ks id message small (transmission_gate hops) end w (travel (channels_of hops) d message.bits busy) h
      (λ time until e. let t = travel_time (channels_of hops) d message.bits busy until time e in omega (arith, on, c, t)) live

  sent_ends : (ks : List ℕ) (id : ℕ) (gate : OwnGate) (message : Outgoing) → is_large message ≡ false → (departure : Option ℕ) (w : World) → IsLater w.clock departure → is_live w id ≡ true → Goes ks w → Ends ks (sent m id gate message departure w)
  sent_ends ks id gate message small departure w later live h =
      let q : Question = GateSize id gate.name in
      let g : PlacedGate = record { id = id; name = gate.name; index = gate.index } in
      let v : World = asked q w in
      let k = beside_goes ks w q h (live_within w id live) in
      either_ends ks (is_out_gate (answer_of m w.records q) gate.index) (chain m id (sent_over id message departure) most_hops g [] v) (broken id fault.NoGate v)
      (λ e. chain_ends ks id w.clock (sent_over id message departure) (sent_over_ends ks id w.clock message small departure later) most_hops g [] v k refl live) (λ e. k.0)

  entering_ends : (ks : List ℕ) (id : ℕ) (message : Outgoing) → is_large message ≡ false → (g : PlacedGate) (arrival : Option ℕ) (w : World) → IsLater w.clock arrival → is_live w g.id ≡ true → Goes ks w → Ends ks (entering m id message g arrival w)
  entering_ends ks id message small g None w later live h = h.0
  entering_ends ks id message small g (Some time) w later live h =
      either_ends ks (is_simple w.records g.id) (On (arriving g message time w)) (chain m id (sent_over id message (Some time)) most_hops g [] w)
      (λ e. arriving_goes ks message small g time w h (later time refl) live)
      (λ e. chain_ends ks id w.clock (sent_over id message (Some time)) (sent_over_ends ks id w.clock message small (Some time) later) most_hops g [] w h refl live)

  into_ends : (ks : List ℕ) (id : ℕ) (message : Outgoing) → is_large message ≡ false → (g : PlacedGate) (flight : Flight) (a : Answer) (w : World) → is_live w g.id ≡ true → Goes ks w → Ends ks (sent_into m id g message flight a w)
  into_ends ks id message small g flight a w live h =
      let q : Question = HopBack g.id g.name g.index in
      let v : World = asked q w in
      either_ends ks (is_in_gate a g.index) (asking m q (entered m id g message flight) w) (broken id fault.NoGate w)
      (λ e. asking_ends ks q (entered m id g message flight) w h (live_within w g.id live)
      (λ back k. either_ends ks (is_taken g back v) (broken id fault.AlreadyConnected v) (entering m id message g (flight_end v.clock flight) v) (λ e. k.0)
      (λ e. entering_ends ks id message small g (flight_end v.clock flight) v (λ time f. flight_later v.clock flight time f) live k)))
      (λ e. h.0)

  to_ends : (ks : List ℕ) (id : ℕ) (place : GatePlace) (message : Outgoing) → is_large message ≡ false → (flight : Flight) (w : World) (found : Option ℕ) → module_at place.path w ≡ found → Goes ks w → Ends ks (sent_to m id place message flight w found)
  to_ends ks id place message small flight w None e h = h.0
  to_ends ks id place message small flight w (Some target) e h =
      let live = module_live place.path w target e in
      let g : PlacedGate = record { id = target; name = place.name; index = place.index } in
      asking_ends ks (GateSize target place.name) (sent_into m id g message flight) w h (live_within w target live)
      (λ a k. into_ends ks id message small g flight a (asked (GateSize target place.name) w) live k)

  -- ---- gates that are joined and freed

  changed_goes : (ks : List ℕ) (g : PlacedGate) (to : Option NextHop) (w : World) → Goes ks w → Goes ks (with_change g to w)
  changed_goes ks g to w h = let f = fits_beside w (with_change g to w) h.0.0 refl refl refl refl in ((f, l.joined g to w h.0.0 f h.0.1), h.1)

  free_ends : (ks : List ℕ) (id : ℕ) (g t : PlacedGate) (link : Option Link) (o : Option NextHop) (w : World) → Goes (t.id ∷ ks) w → Ends (t.id ∷ ks) (joined_free m id g t link o w)
  free_ends ks id g t link (Some hop) w h = h.0
  free_ends ks id g t link None w h =
      let q : Question = HopBack t.id t.name t.index in
      let v : World = asked q w in
      asking_ends (t.id ∷ ks) q (joined id g t link) w h (live_within w t.id h.1.0)
      (λ a f. either_ends (t.id ∷ ks) (is_taken t a v) (broken id fault.AlreadyConnected v) (On (with_change g (Some (record { to = t; channel = channel_by link })) v)) (λ e. f.0)
      (λ e. changed_goes (t.id ∷ ks) g (Some (record { to = t; channel = channel_by link })) v f))

  join_into_ends : (ks : List ℕ) (id : ℕ) (g t : PlacedGate) (link : Option Link) (a : Answer) (w : World) → is_live w g.id ≡ true → Goes (t.id ∷ ks) w → Ends (t.id ∷ ks) (joined_into m id g t link a w)
  join_into_ends ks id g t link a w live h =
      either_ends (t.id ∷ ks) (is_in_gate a t.index) (next_hop m g (joined_free m id g t link) w) (broken id fault.NoGate w)
      (λ e. next_ends (t.id ∷ ks) g (joined_free m id g t link) w h live (λ o v k same to. free_ends ks id g t link o v k)) (λ e. h.0)

  join_from_ends : (ks : List ℕ) (id : ℕ) (g t : PlacedGate) (link : Option Link) (a : Answer) (w : World) → is_live w g.id ≡ true → Goes (t.id ∷ ks) w → Ends (t.id ∷ ks) (joined_from m id g t link a w)
  join_from_ends ks id g t link a w live h =
      let q : Question = GateSize t.id t.name in
      either_ends (t.id ∷ ks) (is_out_gate a g.index) (asking m q (joined_into m id g t link) w) (broken id fault.NoGate w)
      (λ e. asking_ends (t.id ∷ ks) q (joined_into m id g t link) w h (live_within w t.id h.1.0) (λ c k. join_into_ends ks id g t link c (asked q w) live k)) (λ e. h.0)

  join_to_ends : (ks : List ℕ) (id : ℕ) (from to : GatePlace) (link : Option Link) (source : ℕ) (w : World) (found : Option ℕ) → module_at to.path w ≡ found → is_live w source ≡ true → Goes ks w → Ends ks (joined_to m id from to link source w found)
  join_to_ends ks id from to link source w None e live h = h.0
  join_to_ends ks id from to link source w (Some target) e live h =
      let q : Question = GateSize source from.name in
      let g : PlacedGate = gate_at source from in
      let t : PlacedGate = gate_at target to in
      fewer_end target ks (asking m q (joined_from m id g t link) w)
      (asking_ends (target ∷ ks) q (joined_from m id g t link) w (h.0, (module_live to.path w target e, h.1)) (live_within w source live)
      (λ a k. join_from_ends ks id g t link a (asked q w) live k))

  connected_ends : (ks : List ℕ) (id : ℕ) (from to : GatePlace) (link : Option Link) (w : World) (found : Option ℕ) → module_at from.path w ≡ found → Goes ks w → Ends ks (joined_at m id from to link w found)
  connected_ends ks id from to link w None e h = h.0
  connected_ends ks id from to link w (Some source) e h = join_to_ends ks id from to link source w (module_at to.path w) refl (module_live from.path w source e) h

  -- ---- the other way

  freed_ends : (ks : List ℕ) (id : ℕ) (g : PlacedGate) (o : Option NextHop) (w : World) → Goes ks w → Ends ks (freed id g o w)
  freed_ends ks id g None w h = h.0
  freed_ends ks id g (Some hop) w h = changed_goes ks g None w h

  disconnected_ends : (ks : List ℕ) (id : ℕ) (place : GatePlace) (w : World) (found : Option ℕ) → module_at place.path w ≡ found → Goes ks w → Ends ks (freed_at m id place w found)
  disconnected_ends ks id place w None e h = h.0
  disconnected_ends ks id place w (Some source) e h =
      let g : PlacedGate = gate_at source place in
      let q : Question = GateSize source place.name in
      let live = module_live place.path w source e in
      asking_ends ks q (freed_from m id g) w h (live_within w source live)
      (λ a k. either_ends ks (is_out_gate a g.index) (next_hop m g (freed id g) (asked q w)) (broken id fault.NoGate (asked q w))
      (λ e. next_ends ks g (freed id g) (asked q w) k live (λ o v n same to. freed_ends ks id g o v n)) (λ e. k.0))

  -- ---- modules that are deleted

  first_ends : (ks : List ℕ) (finish : Bool) (target : ℕ) (w : World) → Goes ks w → Ends ks (finished_first b m finish target w)
  first_ends ks true target w h = finish_all_ends ks occasion.Deletion (to_finish_in target w) w h
  first_ends ks false target w h = h

  pub gone_holds : (target : ℕ) (w : World) → is_live w target ≡ true → Holds w → Holds (gone (subtree_of target w) w)
  gone_holds target w live h =
      let f = fits_without target w h.0 in
      (f, l.gone target w live h.0 f h.1)

  dropped_ends : (id target : ℕ) (w : World) → is_live w target ≡ true → Goes (id ∷ []) w → Ends (id ∷ []) (subtree_dropped id target w)
  dropped_ends id target w live h = by (among id (subtree_of target w)) refl
    where
      by : (t : Bool) → among id (subtree_of target w) ≡ t → Ends (id ∷ []) (if t then Stopped (gone (subtree_of target w) w) else On (gone (subtree_of target w) w))
      by true e = gone_holds target w live h.0
      by false e = (gone_holds target w live h.0, (live_gone w (subtree_of target w) id h.1.0 e, tt))

  -- they are finished, and the module lives still
  finished_ends : (id target : ℕ) (fl : Flow) → Ends (target ∷ id ∷ []) fl → Ends (id ∷ []) (fl >>= subtree_dropped id target)
  finished_ends id target (On w) h = dropped_ends id target w h.1.0 (h.0, h.1.1)
  finished_ends id target (Stopped w) h = h
  finished_ends id target (Broken w path e) h = h

  deleted_ends : (id : ℕ) (path : List ℕ) (finish : Bool) (w : World) (found : Option ℕ) → module_at path w ≡ found → Goes (id ∷ []) w → Ends (id ∷ []) (deleted_at b m id finish w found)
  deleted_ends id path finish w None e h = h.0
  deleted_ends id path finish w (Some target) e h =
      either_ends (id ∷ []) (target == 1) (broken id fault.NoModule w) (finished_first b m finish target w >>= subtree_dropped id target) (λ t. h.0)
      (λ t. finished_ends id target (finished_first b m finish target w) (first_ends (target ∷ id ∷ []) finish target w (h.0, (module_live path w target e, h.1))))

  -- ---- modules that are created

  awaiting_goes : (ks : List ℕ) (first : ℕ) (w : World) → is_live w first ≡ true → Goes ks w → Goes ks (with_start first w)
  awaiting_goes ks first w live h = inserted_goes ks (record { time = w.clock; priority = least_priority; number = w.next; id = first; what = happening.Start (length w.records) }) w refl (omega arith) live (omega arith) h

  stays_end : (ks : List ℕ) (fl : Flow) → Stays P fl → Stays (λ w. (Fits w × Each (λ k. is_live w k ≡ true) ks) × (0 ≤ length w.records)) fl → Ends ks fl
  stays_end ks (On w) h k = ((k.0.0, h), k.0.1)
  stays_end ks (Stopped w) h k = absurd h
  stays_end ks (Broken w path f) h k = (k.0.0, h)

  -- the setup of a module that lives
  pub set_up_ends : (ks : List ℕ) (depth id : ℕ) (w : World) → is_live w id ≡ true → HasLevels depth id w → Goes ks w → Ends ks (set_up depth m id w)
  set_up_ends ks depth id w live levels h =
      stays_end ks (set_up depth m id w) (l.set_up depth id w live levels h.0.0 h.0.1)
      (set_up_stays (λ v. Fits v × Each (λ k. is_live v k ≡ true) ks) (lives_on ks) depth m 0 id w (h.0.0, h.1) (omega arith) (live_within w id live))

  built_by_ends : (ks : List ℕ) (levels first : ℕ) (class : Option (List ℕ)) (w : World) → HasLevels levels first w → Goes (first ∷ ks) w → Ends (first ∷ ks) (built_by m levels first class w)
  built_by_ends ks levels first (Some class) w e h = awaiting_goes (first ∷ ks) first w h.1.0 h
  built_by_ends ks levels first None w e h =
      then_ends (first ∷ ks) (set_up levels m first w) (awaiting first) (set_up_ends (first ∷ ks) levels first w h.1.0 e h) (λ v g. awaiting_goes (first ∷ ks) first v g.1.0 g)

  built_as_ends : (ks : List ℕ) (levels first : ℕ) (a : Answer) (w : World) → HasLevels levels first w → Goes (first ∷ ks) w → Ends (first ∷ ks) (built_as m levels first a w)
  built_as_ends ks levels first (answer.Class class) w e h = built_by_ends ks levels first class w e h
  built_as_ends ks levels first (answer.Fault path f) w e h = h.0
  built_as_ends ks levels first (answer.Root name) w e h = h.0
  built_as_ends ks levels first (answer.Inside bs) w e h = h.0
  built_as_ends ks levels first (answer.Value v) w e h = h.0
  built_as_ends ks levels first (answer.Gate g) w e h = h.0
  built_as_ends ks levels first (answer.Next next) w e h = h.0
  built_as_ends ks levels first (answer.Beyond beyond) w e h = h.0
  built_as_ends ks levels first (answer.Injection i) w e h = h.0
  built_as_ends ks levels first answer.Absent w e h = h.0

  creating_ends : (ks : List ℕ) (parent : ℕ) (c : Creation) (w : World) → is_live w parent ≡ true → is_full (room_in w) ≡ false → is_full (levels_in parent w) ≡ false → Goes ks w → Ends ks (creating m parent c (built_as m (levels_in parent w) (suc (length w.records))) w)
  creating_ends ks parent c w around room deep h =
      let a : Answer = class_answer m parent c w in
      let r : Record = record_for parent c (class_in a) in
      let v : World = with_created parent c (class_in a) w in
      let first : ℕ = suc (length w.records) in
      let within = live_within w parent around in
      let nested = nested_last 0 w.records r h.0.0.nested (omega (arith, within)) in
      let f = fits_more w v (r ∷ []) h.0.0 refl refl refl refl nested in
      let live = live_last w v r refl refl h.0.0.dead in
      let all = each_map (λ k. is_live w k ≡ true) (λ k. is_live v k ≡ true) ks (λ k e. live_more w v (r ∷ []) k refl refl e) h.1 in
      let g : Goes (first ∷ ks) v = ((f, l.created parent c (class_in a) w around room deep h.0.0 f h.0.1), (live, all)) in
      fewer_end first ks (built_as m (levels_in parent w) first a (asked (TypeOf first) v))
      (built_as_ends ks (levels_in parent w) first a (asked (TypeOf first) v) (created_levels parent c (class_in a) w h.0.0 within deep) (beside_goes (first ∷ ks) v (TypeOf first) g (live_within v first live)))

  created_ends : (ks : List ℕ) (id : ℕ) (c : Creation) (w : World) (found : Option ℕ) → module_at c.parent w ≡ found → Goes ks w → Ends ks (created_in m id c w found)
  created_ends ks id c w None e h = h.0
  created_ends ks id c w (Some parent) e h =
      either_ends ks (is_simple w.records parent) _ _ (λ e. h.0)
      (λ s. either_ends ks (is_module_name c.name) _ _
      (λ s. either_ends ks (has_namesake parent c w) _ _ (λ s. h.0)
      (λ s. either_ends ks (is_full (room_in w)) _ _ (λ s. h.0)
      (λ room. either_ends ks (is_full (levels_in parent w)) _ _ (λ s. h.0) (λ deep. creating_ends ks parent c w (module_live c.parent w parent e) room deep h))))
      (λ s. h.0))

  -- ---- actions: one line for each

  pub perform_ends : (id : ℕ) (action : Action) (w : World) → has_large_payload action ≡ false → Goes (id ∷ []) w → Ends (id ∷ []) (perform b m id action w)
  perform_ends id (Emit signal value) w small h = deed_ends (id ∷ []) id (Emit signal value) w h.1.0 h
  perform_ends id (RecordScalar name value) w small h = deed_ends (id ∷ []) id (RecordScalar name value) w h.1.0 h
  perform_ends id (Send gate message) w small h = sent_ends (id ∷ []) id gate message small (Some w.clock) w (λ time e. let same : w.clock ≡ time = cc in omega (arith, same)) h.1.0 h
  perform_ends id (SendDelayed gate message delay) w small h = sent_ends (id ∷ []) id gate message small (time_sum w.clock delay) w (λ time e. sum_is_after w.clock delay time e) h.1.0 h
  perform_ends id (SendDirect place message flight) w small h = to_ends (id ∷ []) id place message small flight w (module_at place.path w) refl h
  perform_ends id (ScheduleAt a) w small h = deed_ends (id ∷ []) id (ScheduleAt a) w h.1.0 h
  perform_ends id (ScheduleAfter s) w small h = deed_ends (id ∷ []) id (ScheduleAfter s) w h.1.0 h
  perform_ends id (Cancel timer) w small h = deed_ends (id ∷ []) id (Cancel timer) w h.1.0 h
  perform_ends id (Create c) w small h = created_ends (id ∷ []) id c w (module_at c.parent w) refl h
  perform_ends id (Delete path finish) w small h = deleted_ends id path finish w (module_at path w) refl h
  perform_ends id (Connect from to link) w small h = connected_ends (id ∷ []) id from to link w (module_at from.path w) refl h
  perform_ends id (Disconnect place) w small h = disconnected_ends (id ∷ []) id place w (module_at place.path w) refl h
  perform_ends id End w small h = deed_ends (id ∷ []) id End w h.1.0 h
  perform_ends id (Fail text) w small h = deed_ends (id ∷ []) id (Fail text) w h.1.0 h

  -- what follows a reply within an event
  pub answer_ends : (id : ℕ) (reply : Reply) (w : World) → Goes (id ∷ []) w → Ends (id ∷ []) (answered b m id reply w)
  answer_ends id reply w h = answered_ends [] occasion.Event id (perform b m id) reply w (perform_ends id) h

  -- ONE CALL within an event
  pub call_ends : (id : ℕ) (reason : CallReason) (w : World) → Holds w → Ends [] (call_module b m id reason w)
  call_ends id reason w h = called_ends [] (answered b m id) id reason w (instance_in id w.modules) refl (h, tt) (answer_ends id)

  -- ---- starts

  initialize_ends : (stage id : ℕ) (w : World) → Holds w → Ends [] (initialize b m stage id w)
  initialize_ends stage id w h = either_ends [] (nat_lt stage (stages_in b (instance_in id w.modules))) (call_module b m id (prompt.Initialize stage) w) (On w) (λ e. call_ends id (prompt.Initialize stage) w h) (λ e. (h, tt))

  one_stage_ends : (stage : ℕ) (ids : List ℕ) (w : World) → Holds w → Ends [] (one_stage b m stage ids w)
  one_stage_ends stage [] w h = (h, tt)
  one_stage_ends stage (id ∷ ids) w h = then_ends [] (initialize b m stage id w) (for_each (initialize b m stage) ids) (initialize_ends stage id w h) (λ v g. one_stage_ends stage ids v g.0)

  stages_end : (ids : List ℕ) (stage left : ℕ) (w : World) → Holds w → Ends [] (stages_from b m ids stage left w)
  stages_end ids stage zero w h = (h, tt)
  stages_end ids stage (suc left) w h = then_ends [] (one_stage b m stage ids w) (stages_from b m ids (suc stage) left) (one_stage_ends stage ids w h) (λ v g. stages_end ids (suc stage) left v g.0)

  -- A START of modules that live
  pub start_ends : (ids : List ℕ) (first : ℕ) (w : World) → AreLive w ids → AreNew w ids → Holds w → Ends [] (start_modules b m ids first w)
  start_ends ids first w live fresh h = by (first_unknown b (needs_of ids w)) refl
    where
      calls : List ℕ
      calls = outer_first w.records ids first

      by : (o : Option Part) → first_unknown b (needs_of ids w) ≡ o → Ends [] (unless_unknown b (needs_of ids w) w o >>= started b m ids calls)
      by (Some p) e = h
      by None e =
          let v : World = placed b (needs_of ids w) w in
          let u : World = with_started ids v in
          let f = fits_placed b w ids h.0 live in
          let g = fits_beside v u f refl refl refl refl in
          stages_end calls 0 (most_stages b v.modules calls) u (g, l.started ids w e live fresh h.0 g h.1)

  -- ---- an event

  pub happens_ends : (p : Pending) (what : Happening) (w : World) → Holds w → Ends [] (happens b m p what w)
  happens_ends p (happening.Start last) w h = start_ends (starting p.id last w) p.id w (starting_live p.id last w) (starting_new p.id last w) h
  happens_ends p (happening.Timer timer kind) w h = call_ends p.id (prompt.Message (message_of p)) w h
  happens_ends p (happening.Arrival kind bits payload) w h = call_ends p.id (prompt.Message (message_of p)) w h
  happens_ends p (happening.Delivery d) w h = call_ends p.id (prompt.Message (message_of p)) w h

  -- ONE EVENT, from the world in which it begins
  pub event_holds : (p : Pending) (rest : List Pending) (w : World) → Holds (begun p rest w) → Holds (in_flow (event b m p rest w))
  event_holds p rest w h = ends_hold [] (event b m p rest w) (happens_ends p p.what (begun p rest w) h)
