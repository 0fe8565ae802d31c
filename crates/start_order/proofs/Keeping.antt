-- What is kept through each event, whatever the model answers: a property of worlds, and another one
-- while a module is created. A property of priorities is known of all that is sent and set.
use Rattle.std.proofs.Common.{◌≡◌, ℕ, zero, suc, ◌+◌, ◌≤◌, ◌==◌, Bool, true, false, List, [], ◌∷◌, ◌++◌, Option, Some, None, Result, Ok, Err, refl, arith, length, if◌then◌else◌, nat_lt, ℤ}
use Rattle.sim_time.specs.Time.{time_sum}
use Rattle.channels.specs.declared.travels.ChannelFault.{ChannelFault}
use Rattle.channels.specs.declared.travels.Travel.{Travel}
use Rattle.channels.specs.declared.travels.Travel.TheVariants.{Arrival, Lost}
use Rattle.channels.specs.Travel.{travel}
use Rattle.event_set.proofs.Order.{each_map}
use Rattle.event_set.specs.Order.{inserted}
use Rattle.event_set.specs.Timers.{has_timer}
use Rattle.event_set.specs.declared.pending.Happening.TheVariants as happening
use Rattle.event_set.specs.declared.pending.Pending.{Pending}
use Rattle.module_api.specs.Actions.{has_large_payload}
use Rattle.module_api.specs.Behaviour.{Behaviour, Replied}
use Rattle.module_api.specs.Names.{is_module_name, is_scalar_name}
use Rattle.module_api.specs.declared.call.CallReason.{CallReason}
use Rattle.module_api.specs.declared.call.CallReason.TheVariants as prompt
use Rattle.module_api.specs.declared.message.Outgoing.{Outgoing}
use Rattle.module_api.specs.declared.reply.Action.{Action}
use Rattle.module_api.specs.declared.reply.Action.TheVariants.{Emit, RecordScalar, Send, SendDelayed, SendDirect, ScheduleAt, ScheduleAfter, Cancel, Create, Delete, Connect, Disconnect, End, Fail}
use Rattle.module_api.specs.declared.reply.Creation.{Creation}
use Rattle.module_api.specs.declared.reply.Flight.{Flight}
use Rattle.module_api.specs.declared.reply.GatePlace.{GatePlace}
use Rattle.module_api.specs.declared.reply.Link.{Link}
use Rattle.module_api.specs.declared.reply.OwnGate.{OwnGate}
use Rattle.module_api.specs.declared.reply.Read.{Read}
use Rattle.module_api.specs.declared.reply.Read.TheVariants as read
use Rattle.module_api.specs.declared.reply.Reply.{Reply}
use Rattle.module_api.specs.declared.reply.Schedule.{Schedule}
use Rattle.model_questions.specs.declared.answer.Answer.{Answer}
use Rattle.model_questions.specs.declared.answer.Answer.TheVariants as answer
use Rattle.model_questions.specs.declared.answer.Question.{Question}
use Rattle.model_questions.specs.declared.answer.Question.TheVariants.{Build, GateSize, Hop, HopBack, TypeOf}
use Rattle.model_questions.specs.declared.record.Record.{Record}
use Rattle.model_questions.specs.Answers.{Answers, answer_of}
use Rattle.model_questions.proofs.AnswerLemmas.{about}
use Rattle.run_semantics.specs.declared.occasions.Occasion.{Occasion}
use Rattle.run_semantics.specs.declared.occasions.Occasion.TheVariants as occasion
use Rattle.run_semantics.specs.declared.outcome.RunFault.{RunFault}
use Rattle.run_semantics.specs.declared.outcome.RunFault.TheVariants as fault
use Rattle.run_semantics.specs.declared.routes.GateChange.{GateChange}
use Rattle.run_semantics.specs.declared.routes.NextHop.{NextHop}
use Rattle.run_semantics.specs.declared.routes.PassedHop.{PassedHop}
use Rattle.run_semantics.specs.declared.routes.PlacedGate.{PlacedGate}
use Rattle.run_semantics.specs.declared.routes.Transmission.{Transmission}
use Rattle.run_semantics.specs.declared.traces.Emission.{Emission}
use Rattle.run_semantics.specs.declared.traces.Instance.{Instance}
use Rattle.run_semantics.specs.declared.traces.Scalar.{Scalar}
use Rattle.run_semantics.specs.World.{World, asked, is_live}
use Rattle.run_semantics.specs.Routes.{arriving, arriving_at, busy_of, change_of, channels_of, hop_by, if_live, is_in_gate, is_out_gate, is_simple, is_taken, module_at, transmission_gate, transmitting, with_change}
use Rattle.run_semantics.specs.Perform.{Flow, On, Stopped, Broken, ◌>>=◌, for_each, asking, broken, scheduled_at, scheduled, with_cancelled, with_scalar, deed, hop_after, next_hop, past_last, with_hop, after_hop, chain, most_hops, travelled, sent_over, sent, entering, flight_end, entered, sent_into, sent_to, question_of, ask_all, read_fault, is_allowed, act, act_all, acted, ask_noted, unless_fault, answered_by, perform, answered, call_module}
use Rattle.run_semantics.specs.Calls.{call_of, instance_in, changed, called}
use Rattle.run_semantics.specs.Finishing.{call_last, with_finished, marked, finish, finish_all}
use Rattle.run_semantics.specs.Deleting.{subtree_of, to_finish_in, finished_first, gone, subtree_dropped, deleted_at}
use Rattle.run_semantics.specs.Joining.{gate_at, channel_by, joined, joined_free, joined_into, joined_from, joined_to, joined_at, freed, freed_from, freed_at}
use Rattle.run_semantics.specs.Creating.{with_start, awaiting, record_for, class_in, with_created, class_answer, creating, built_by, built_as, has_namesake, is_full, levels_in, created_in}
use Rattle.run_semantics.specs.Run.{with_submodules, room_in, set_up, Part, needs_of, placed, first_unknown, unless_unknown, stages_in, most_stages, initialize, one_stage, stages_from, with_started, started, start_modules}
use Rattle.run_semantics.specs.Laws.{Each}
use Rattle.run_semantics.specs.Subtree.{among, outer_first}
use Rattle.run_semantics.proofs.Alive.{live_gone, live_last, live_more, live_within}
use Rattle.run_semantics.proofs.Growth.{Fits, fits_beside, found_live, fits_changed, fits_more, fits_asked, fits_placed, fits_built, nested_last}
use Rattle.run_semantics.proofs.Setting.{IsLasting, Stays, set_up_stays}
use Rattle.event_set.specs.Events.{last_started}
use Rattle.run_semantics.proofs.Lasting.{AreLive, HasLevels, LiveTo, created_levels, fits_without, if_live_to, module_live}
use Rattle.start_order.specs.Priorities.{IsToldOf, RepliesWith, SendsOf}

-- an event that is no start, and has such a priority
abbrev pub IsPlain : (ℤ → Type 0) → Pending → Type 0
IsPlain S e = (last_started e.what ≡ None) × S e.priority

-- A PROPERTY IS KEPT where each of these steps keeps it; while a module is created, the other one
-- holds, of the first id of those that are created.
pub record Keeps (m : Answers) (S : ℤ → Type 0) (P : World → Type 0) (Q : ℕ → World → Type 0) : Type 0 where
  pub asks : (q : Question) (w : World) → P w → P (asked q w)
  pub emitted : (e : Emission) (w : World) → P w → P (record w { emissions = w.emissions ++ e ∷ [] })
  pub recorded : (s : Scalar) (w : World) → P w → P (record w { scalars = w.scalars ++ s ∷ [] })
  pub inserted : (e : Pending) (w : World) → e.number ≡ w.next → IsPlain S e → is_live w e.id ≡ true → P w → P (record w { pending = inserted e w.pending; next = w.next + 1 })
  pub cancelled : (id timer : ℕ) (w : World) → P w → P (with_cancelled id timer w)
  pub transmitted : (ts : List Transmission) (w : World) → P w → P (record w { transmissions = ts })
  pub joined : (g : PlacedGate) (to : Option NextHop) (w : World) → P w → P (with_change g to w)
  pub ended : (w : World) → P w → P (record w { ended = true })
  pub called : (id : ℕ) (state : List ℕ) (w : World) → P w → P (changed id state w)
  pub finished : (id : ℕ) (w : World) → P w → P (with_finished id w)
  pub gone : (target : ℕ) (w : World) → is_live w target ≡ true → Fits w → P w → P (gone (subtree_of target w) w)
  pub created : (parent : ℕ) (c : Creation) (class : Option (List ℕ)) (w : World) → is_live w parent ≡ true → is_full (levels_in parent w) ≡ false → Fits w → P w → Q (suc (length w.records)) (with_created parent c class w)
  pub asks_within : (first : ℕ) (q : Question) (w : World) → Q first w → Q first (asked q w)
  pub set_up : (depth first : ℕ) (w : World) → is_live w first ≡ true → HasLevels depth first w → Fits w → Q first w → Stays (Q first) (set_up depth m first w)
  pub waits : (first : ℕ) (w : World) → is_live w first ≡ true → Q first w → P (with_start first w)

-- through a setup everything fits, and these live
lives_on : (ks : List ℕ) → IsLasting (λ w. Fits w × Each (λ k. is_live w k ≡ true) ks)
lives_on ks = record {
  asked = λ id w h n. (fits_asked (Build id) w h.0 n, h.1);
  created = λ parent bs w h n few.
      let v : World = with_submodules parent bs w in
      (fits_built parent bs w h.0 n, each_map (λ k. is_live w k ≡ true) (λ k. is_live v k ≡ true) ks (λ k e. live_more w v _ k refl refl e) h.1);
}

module _ (b : Behaviour) (m : Answers) (T S : ℤ → Type 0) (P : World → Type 0) (Q : ℕ → World → Type 0) (l : Keeps m S P Q) (short : RepliesWith T S b) where
  -- everything fits, and the property holds
  abbrev pub Holds : World → Type 0
  Holds w = Fits w × P w

  -- and these live
  abbrev Goes : List ℕ → World → Type 0
  Goes ks w = Holds w × Each (λ k. is_live w k ≡ true) ks

  -- so it is in the world of a flow, but where a fault has ended the run
  abbrev pub Ends : List ℕ → Flow → Type 0
  Ends ks (On w) = Goes ks w
  Ends ks (Stopped w) = Holds w
  Ends ks (Broken w path f) = Unit {0}

  then_ends : (ks : List ℕ) (fl : Flow) (k : World → Flow) → Ends ks fl → ((w : World) → Goes ks w → Ends ks (k w)) → Ends ks (fl >>= k)
  then_ends ks (On w) k h f = f w h
  then_ends ks (Stopped w) k h f = h
  then_ends ks (Broken w path e) k h f = tt

  either_ends : (ks : List ℕ) (c : Bool) (f g : Flow) → (c ≡ true → Ends ks f) → (c ≡ false → Ends ks g) → Ends ks (if c then f else g)
  either_ends ks true f g h k = h refl
  either_ends ks false f g h k = k refl

  fewer_end : (k : ℕ) (ks : List ℕ) (fl : Flow) → Ends (k ∷ ks) fl → Ends ks fl
  fewer_end k ks (On w) h = (h.0, h.1.1)
  fewer_end k ks (Stopped w) h = h
  fewer_end k ks (Broken w path e) h = tt

  -- ---- steps that leave who lives

  beside_goes : (ks : List ℕ) (w : World) (q : Question) → Goes ks w → about q ≤ length w.records → Goes ks (asked q w)
  beside_goes ks w q h n = ((fits_asked q w h.0.0 n, l.asks q w h.0.1), h.1)

  asking_ends : (ks : List ℕ) (q : Question) (next : Answer → World → Flow) (w : World) → Goes ks w → about q ≤ length w.records → ((a : Answer) → Goes ks (asked q w) → Ends ks (next a (asked q w))) → Ends ks (asking m q next w)
  asking_ends ks q next w h n f = f (answer_of m w.records q) (beside_goes ks w q h n)

  inserted_goes : (ks : List ℕ) (e : Pending) (w : World) → e.number ≡ w.next → IsPlain S e → is_live w e.id ≡ true → Goes ks w → Goes ks (record w { pending = inserted e w.pending; next = w.next + 1 })
  inserted_goes ks e w n plain live h = ((fits_beside w (record w { pending = inserted e w.pending; next = w.next + 1 }) h.0.0 refl refl refl refl, l.inserted e w n plain live h.0.1), h.1)

  -- ---- deeds

  timer_ends : (ks : List ℕ) (id timer : ℕ) (priority kind : ℤ) (w : World) (time : ℕ) → S priority → is_live w id ≡ true → Goes ks w → Ends ks (scheduled_at id timer priority kind w time)
  timer_ends ks id timer priority kind w time p live h =
      either_ends ks (has_timer id timer w.pending) _ _ (λ e. tt)
      (λ e. inserted_goes ks (record { time = time; priority = priority; number = w.next; id = id; what = happening.Timer timer kind }) w refl (refl, p) live h)

  scheduled_ends : (ks : List ℕ) (id : ℕ) (s : Schedule) (w : World) (found : Option ℕ) → S s.priority → is_live w id ≡ true → Goes ks w → Ends ks (scheduled id s w found)
  scheduled_ends ks id s w None p live h = tt
  scheduled_ends ks id s w (Some time) p live h = timer_ends ks id s.timer s.priority s.kind w time p live h

  deed_ends : (ks : List ℕ) (id : ℕ) (action : Action) (w : World) → SendsOf S action → is_live w id ≡ true → Goes ks w → Ends ks (deed id action w)
  deed_ends ks id (Emit signal value) w p live h =
      let e : Emission = record { id = id; signal = signal; event = w.count; time = w.clock; value = value } in
      ((fits_beside w (record w { emissions = w.emissions ++ e ∷ [] }) h.0.0 refl refl refl refl, l.emitted e w h.0.1), h.1)
  deed_ends ks id (RecordScalar name value) w p live h =
      either_ends ks (is_scalar_name name) (On (with_scalar id name value w)) (broken id fault.BadName w)
      (λ e. ((fits_beside w (with_scalar id name value w) h.0.0 refl refl refl refl, l.recorded (record { id = id; name = name; value = value }) w h.0.1), h.1)) (λ e. tt)
  deed_ends ks id (ScheduleAt a) w p live h =
      either_ends ks (nat_lt a.at w.clock) (broken id fault.Past w) (scheduled_at id a.timer a.priority a.kind w a.at) (λ e. tt)
      (λ e. timer_ends ks id a.timer a.priority a.kind w a.at p live h)
  deed_ends ks id (ScheduleAfter s) w p live h = scheduled_ends ks id s w (time_sum w.clock s.delay) p live h
  deed_ends ks id (Cancel timer) w p live h = ((fits_beside w (with_cancelled id timer w) h.0.0 refl refl refl refl, l.cancelled id timer w h.0.1), h.1)
  deed_ends ks id End w p live h = (fits_beside w (record w { ended = true }) h.0.0 refl refl refl refl, l.ended w h.0.1)
  deed_ends ks id (Fail text) w p live h = tt
  deed_ends ks id (Create c) w p live h = h
  deed_ends ks id (Delete path finish) w p live h = h
  deed_ends ks id (Connect from to link) w p live h = h
  deed_ends ks id (Disconnect place) w p live h = h
  deed_ends ks id (Send gate message) w p live h = h
  deed_ends ks id (SendDelayed gate message delay) w p live h = h
  deed_ends ks id (SendDirect place message flight) w p live h = h

  -- ---- replies

  -- each action that is done so
  abbrev AllEnd : List ℕ → ℕ → (Action → World → Flow) → Type 0
  AllEnd ks id does = (action : Action) (w : World) → SendsOf S action → Goes (id ∷ ks) w → Ends (id ∷ ks) (does action w)

  act_ends : (ks : List ℕ) (o : Occasion) (id : ℕ) (does : Action → World → Flow) (action : Action) (w : World) → AllEnd ks id does → SendsOf S action → Goes (id ∷ ks) w → Ends (id ∷ ks) (act does o id action w)
  act_ends ks o id does action w f p h =
      either_ends (id ∷ ks) (has_large_payload action) (broken id fault.PayloadTooLarge w) (if is_allowed o action then does action w else broken id fault.NotInFinish w) (λ e. tt)
      (λ e. either_ends (id ∷ ks) (is_allowed o action) (does action w) (broken id fault.NotInFinish w) (λ e. f action w p h) (λ e. tt))

  act_all_ends : (ks : List ℕ) (o : Occasion) (id : ℕ) (does : Action → World → Flow) (actions : List Action) (w : World) → AllEnd ks id does → Each (SendsOf S) actions → Goes (id ∷ ks) w → Ends (id ∷ ks) (act_all does o id actions w)
  act_all_ends ks o id does [] w f p h = h
  act_all_ends ks o id does (action ∷ actions) w f p h =
      then_ends (id ∷ ks) (act does o id action w) (for_each (act does o id) actions) (act_ends ks o id does action w f p.0 h) (λ v g. act_all_ends ks o id does actions v f p.1 g)

  about_read : (id : ℕ) (r : Read) → about (question_of id r) ≡ id
  about_read id (read.Parameter name) = refl
  about_read id (read.Gate name) = refl

  ask_all_goes : (ks : List ℕ) (id : ℕ) (reads : List Read) (w : World) → Goes (id ∷ ks) w → Goes (id ∷ ks) (ask_all id reads w)
  ask_all_goes ks id [] w h = h
  ask_all_goes ks id (r ∷ rs) w h =
      let n = live_within w id h.1.0 in
      ask_all_goes ks id rs (asked (question_of id r) w) (beside_goes (id ∷ ks) w (question_of id r) h (omega (arith, n, about_read id r)))

  ask_noted_goes : (ks : List ℕ) (o : Occasion) (id : ℕ) (reads : List Read) (w : World) → Goes (id ∷ ks) w → Goes (id ∷ ks) (ask_noted o id reads w)
  ask_noted_goes ks occasion.Event id reads w h = ask_all_goes ks id reads w h
  ask_noted_goes ks occasion.Deletion id reads w h = ask_all_goes ks id reads w h
  ask_noted_goes ks occasion.End id reads w h = h

  unless_ends : (ks : List ℕ) (id : ℕ) (found : Option RunFault) (go : World → Flow) (w : World) → Ends ks (go w) → Ends ks (unless_fault id found go w)
  unless_ends ks id (Some f) go w k = tt
  unless_ends ks id None go w k = k

  answered_ends : (ks : List ℕ) (o : Occasion) (id : ℕ) (does : Action → World → Flow) (reply : Reply) (w : World) → AllEnd ks id does → Each (SendsOf S) reply.actions → Goes (id ∷ ks) w → Ends (id ∷ ks) (answered_by m does o id reply w)
  answered_ends ks o id does reply w f p h =
      let v : World = ask_noted o id reply.reads w in
      let g = ask_noted_goes ks o id reply.reads w h in
      unless_ends (id ∷ ks) id (read_fault m w.records id reply.reads) (acted does o id reply.actions) v
      (either_ends (id ∷ ks) (nat_lt 1000 (length reply.actions)) (broken id fault.TooManyActions v) (act_all does o id reply.actions v) (λ e. tt) (λ e. act_all_ends ks o id does reply.actions v f p g))

  -- ---- calls

  called_ends : (ks : List ℕ) (follow : Reply → World → Flow) (id : ℕ) (reason : CallReason) (w : World) (found : Option Instance) → IsToldOf T reason → instance_in id w.modules ≡ found → Goes ks w → ((reply : Reply) (v : World) → Each (SendsOf S) reply.actions → Goes (id ∷ ks) v → Ends (id ∷ ks) (follow reply v)) → Ends ks (called b m follow id reason w found)
  called_ends ks follow id reason w None told e h f = h
  called_ends ks follow id reason w (Some i) told e h f =
      let r : Replied = (b.naming i.kind).reply i.state (call_of m id reason w) in
      fewer_end id ks (follow r.reply (changed id r.state w))
      (f r.reply (changed id r.state w) (short.replies i.kind i.state (call_of m id reason w) told) ((fits_changed id r.state w h.0.0, l.called id r.state w h.0.1), (found_live id w i h.0.0 e, h.1)))

  finish_ends : (ks : List ℕ) (o : Occasion) (id : ℕ) (w : World) → Goes ks w → Ends ks (finish b m o id w)
  finish_ends ks o id w h =
      then_ends ks (call_last b m o id w) (marked id)
      (called_ends ks (answered_by m (deed id) o id) id prompt.Finish w (instance_in id w.modules) tt refl h (λ reply v p g. answered_ends ks o id (deed id) reply v (λ action u q k. deed_ends (id ∷ ks) id action u q k.1.0 k) p g))
      (λ v g. ((fits_beside v (with_finished id v) g.0.0 refl refl refl refl, l.finished id v g.0.1), g.1))

  finish_all_ends : (ks : List ℕ) (o : Occasion) (ids : List ℕ) (w : World) → Goes ks w → Ends ks (finish_all b m o ids w)
  finish_all_ends ks o [] w h = h
  finish_all_ends ks o (id ∷ ids) w h = then_ends ks (finish b m o id w) (for_each (finish b m o) ids) (finish_ends ks o id w h) (finish_all_ends ks o ids)

  -- ---- sending

  next_ends : (ks : List ℕ) (g : PlacedGate) (k : Option NextHop → World → Flow) (w : World) → Goes ks w → is_live w g.id ≡ true → ((o : Option NextHop) (v : World) → Goes ks v → LiveTo v o → Ends ks (k o v)) → Ends ks (next_hop m g k w)
  next_ends ks g k w h live f = by (change_of g w.changes)
    where
      q : Question
      q = Hop g.id g.name g.index

      by : (c : Option GateChange) → Ends ks (hop_after m g k w c)
      by (Some c) = f (if_live w c.to) w h (if_live_to w c.to)
      by None =
          let v : World = asked q w in
          let o : Option NextHop = hop_by v.records g.id (answer_of m w.records q) in
          f (if_live v o) v (beside_goes ks w q h (live_within w g.id live)) (if_live_to v o)

  -- what is done where a simple module is reached
  abbrev Reaches : List ℕ → (List PassedHop → PlacedGate → World → Flow) → Type 0
  Reaches ks r = (hops : List PassedHop) (end : PlacedGate) (w : World) → Goes ks w → is_live w end.id ≡ true → Ends ks (r hops end w)

  past_ends : (ks : List ℕ) (id : ℕ) (o : Option NextHop) (v : World) → Ends ks (past_last id o v)
  past_ends ks id None v = tt
  past_ends ks id (Some x) v = tt

  after_ends : (ks : List ℕ) (id : ℕ) (further : PlacedGate → List PassedHop → World → Flow) (r : List PassedHop → PlacedGate → World → Flow) (g : PlacedGate) (passed : List PassedHop) → Reaches ks r → ((g : PlacedGate) (passed : List PassedHop) (v : World) → Goes ks v → is_live v g.id ≡ true → Ends ks (further g passed v)) → (o : Option NextHop) (v : World) → Goes ks v → LiveTo v o → Ends ks (after_hop id further r g passed o v)
  after_ends ks id further r g passed f k None v h to = tt
  after_ends ks id further r g passed f k (Some x) v h to =
      either_ends ks (is_simple v.records x.to.id) (r (with_hop passed g x) x.to v) (further x.to (with_hop passed g x) v) (λ e. f (with_hop passed g x) x.to v h to) (λ e. k x.to (with_hop passed g x) v h to)

  chain_ends : (ks : List ℕ) (id : ℕ) (r : List PassedHop → PlacedGate → World → Flow) → Reaches ks r → (left : ℕ) (g : PlacedGate) (passed : List PassedHop) (w : World) → Goes ks w → is_live w g.id ≡ true → Ends ks (chain m id r left g passed w)
  chain_ends ks id r f zero g passed w h live = next_ends ks g (past_last id) w h live (λ o v k to. past_ends ks id o v)
  chain_ends ks id r f (suc left) g passed w h live =
      next_ends ks g (after_hop id (chain m id r left) r g passed) w h live
      (λ o v k to. after_ends ks id (chain m id r left) r g passed f (chain_ends ks id r f left) o v k to)

  transmitting_goes : (ks : List ℕ) (g : Option PlacedGate) (until : Option ℕ) (w : World) → Goes ks w → Goes ks (transmitting g until w)
  transmitting_goes ks (Some g) (Some until) w h = let v : World = transmitting (Some g) (Some until) w in ((fits_beside w v h.0.0 refl refl refl refl, l.transmitted v.transmissions w h.0.1), h.1)
  transmitting_goes ks (Some g) None w h = h
  transmitting_goes ks None until w h = h

  transmitting_alike : (g : Option PlacedGate) (until : Option ℕ) (w : World) (k : ℕ) → is_live w k ≡ true → is_live (transmitting g until w) k ≡ true
  transmitting_alike (Some g) (Some until) w k e = e
  transmitting_alike (Some g) None w k e = e
  transmitting_alike None until w k e = e

  arriving_goes : (ks : List ℕ) (message : Outgoing) → S message.priority → (g : PlacedGate) (time : ℕ) (w : World) → Goes ks w → is_live w g.id ≡ true → Goes ks (arriving g message time w)
  arriving_goes ks message p g time w h live = inserted_goes ks (arriving_at g message time w.next) w refl (refl, p) live h

  travelled_ends : (ks : List ℕ) (id : ℕ) (message : Outgoing) → S message.priority → (from : Option PlacedGate) (end : PlacedGate) (w : World) (t : Result Travel ChannelFault) → Goes ks w → is_live w end.id ≡ true → Ends ks (travelled id message from end w t)
  travelled_ends ks id message p from end w (Err f) h live = tt
  travelled_ends ks id message p from end w (Ok (Lost until)) h live = transmitting_goes ks from until w h
  travelled_ends ks id message p from end w (Ok (Arrival time until)) h live =
      arriving_goes ks message p end time (transmitting from until w) (transmitting_goes ks from until w h) (transmitting_alike from until w end.id live)

  sent_over_ends : (ks : List ℕ) (id : ℕ) (message : Outgoing) → S message.priority → (departure : Option ℕ) → Reaches ks (sent_over id message departure)
  sent_over_ends ks id message p None hops end w h live = tt
  sent_over_ends ks id message p (Some d) hops end w h live =
      travelled_ends ks id message p (transmission_gate hops) end w (travel (channels_of hops) d message.bits (busy_of (transmission_gate hops) w.transmissions)) h live

  sent_ends : (ks : List ℕ) (id : ℕ) (gate : OwnGate) (message : Outgoing) → S message.priority → (departure : Option ℕ) (w : World) → is_live w id ≡ true → Goes ks w → Ends ks (sent m id gate message departure w)
  sent_ends ks id gate message p departure w live h =
      let q : Question = GateSize id gate.name in
      let g : PlacedGate = record { id = id; name = gate.name; index = gate.index } in
      let v : World = asked q w in
      let k = beside_goes ks w q h (live_within w id live) in
      either_ends ks (is_out_gate (answer_of m w.records q) gate.index) (chain m id (sent_over id message departure) most_hops g [] v) (broken id fault.NoGate v)
      (λ e. chain_ends ks id (sent_over id message departure) (sent_over_ends ks id message p departure) most_hops g [] v k live) (λ e. tt)

  entering_ends : (ks : List ℕ) (id : ℕ) (message : Outgoing) → S message.priority → (g : PlacedGate) (arrival : Option ℕ) (w : World) → is_live w g.id ≡ true → Goes ks w → Ends ks (entering m id message g arrival w)
  entering_ends ks id message p g None w live h = tt
  entering_ends ks id message p g (Some time) w live h =
      either_ends ks (is_simple w.records g.id) (On (arriving g message time w)) (chain m id (sent_over id message (Some time)) most_hops g [] w)
      (λ e. arriving_goes ks message p g time w h live)
      (λ e. chain_ends ks id (sent_over id message (Some time)) (sent_over_ends ks id message p (Some time)) most_hops g [] w h live)

  into_ends : (ks : List ℕ) (id : ℕ) (message : Outgoing) → S message.priority → (g : PlacedGate) (flight : Flight) (a : Answer) (w : World) → is_live w g.id ≡ true → Goes ks w → Ends ks (sent_into m id g message flight a w)
  into_ends ks id message p g flight a w live h =
      let q : Question = HopBack g.id g.name g.index in
      let v : World = asked q w in
      either_ends ks (is_in_gate a g.index) (asking m q (entered m id g message flight) w) (broken id fault.NoGate w)
      (λ e. asking_ends ks q (entered m id g message flight) w h (live_within w g.id live)
      (λ back k. either_ends ks (is_taken g back v) (broken id fault.AlreadyConnected v) (entering m id message g (flight_end v.clock flight) v) (λ e. tt)
      (λ e. entering_ends ks id message p g (flight_end v.clock flight) v live k)))
      (λ e. tt)

  to_ends : (ks : List ℕ) (id : ℕ) (place : GatePlace) (message : Outgoing) → S message.priority → (flight : Flight) (w : World) (found : Option ℕ) → module_at place.path w ≡ found → Goes ks w → Ends ks (sent_to m id place message flight w found)
  to_ends ks id place message p flight w None e h = tt
  to_ends ks id place message p flight w (Some target) e h =
      let live = module_live place.path w target e in
      let g : PlacedGate = record { id = target; name = place.name; index = place.index } in
      asking_ends ks (GateSize target place.name) (sent_into m id g message flight) w h (live_within w target live)
      (λ a k. into_ends ks id message p g flight a (asked (GateSize target place.name) w) live k)

  -- ---- gates that are joined and freed

  changed_goes : (ks : List ℕ) (g : PlacedGate) (to : Option NextHop) (w : World) → Goes ks w → Goes ks (with_change g to w)
  changed_goes ks g to w h = ((fits_beside w (with_change g to w) h.0.0 refl refl refl refl, l.joined g to w h.0.1), h.1)

  free_ends : (ks : List ℕ) (id : ℕ) (g t : PlacedGate) (link : Option Link) (o : Option NextHop) (w : World) → Goes (t.id ∷ ks) w → Ends (t.id ∷ ks) (joined_free m id g t link o w)
  free_ends ks id g t link (Some hop) w h = tt
  free_ends ks id g t link None w h =
      let q : Question = HopBack t.id t.name t.index in
      let v : World = asked q w in
      asking_ends (t.id ∷ ks) q (joined id g t link) w h (live_within w t.id h.1.0)
      (λ a f. either_ends (t.id ∷ ks) (is_taken t a v) (broken id fault.AlreadyConnected v) (On (with_change g (Some (record { to = t; channel = channel_by link })) v)) (λ e. tt)
      (λ e. changed_goes (t.id ∷ ks) g (Some (record { to = t; channel = channel_by link })) v f))

  join_into_ends : (ks : List ℕ) (id : ℕ) (g t : PlacedGate) (link : Option Link) (a : Answer) (w : World) → is_live w g.id ≡ true → Goes (t.id ∷ ks) w → Ends (t.id ∷ ks) (joined_into m id g t link a w)
  join_into_ends ks id g t link a w live h =
      either_ends (t.id ∷ ks) (is_in_gate a t.index) (next_hop m g (joined_free m id g t link) w) (broken id fault.NoGate w)
      (λ e. next_ends (t.id ∷ ks) g (joined_free m id g t link) w h live (λ o v k to. free_ends ks id g t link o v k)) (λ e. tt)

  join_from_ends : (ks : List ℕ) (id : ℕ) (g t : PlacedGate) (link : Option Link) (a : Answer) (w : World) → is_live w g.id ≡ true → Goes (t.id ∷ ks) w → Ends (t.id ∷ ks) (joined_from m id g t link a w)
  join_from_ends ks id g t link a w live h =
      let q : Question = GateSize t.id t.name in
      either_ends (t.id ∷ ks) (is_out_gate a g.index) (asking m q (joined_into m id g t link) w) (broken id fault.NoGate w)
      (λ e. asking_ends (t.id ∷ ks) q (joined_into m id g t link) w h (live_within w t.id h.1.0) (λ c k. join_into_ends ks id g t link c (asked q w) live k)) (λ e. tt)

  join_to_ends : (ks : List ℕ) (id : ℕ) (from to : GatePlace) (link : Option Link) (source : ℕ) (w : World) (found : Option ℕ) → module_at to.path w ≡ found → is_live w source ≡ true → Goes ks w → Ends ks (joined_to m id from to link source w found)
  join_to_ends ks id from to link source w None e live h = tt
  join_to_ends ks id from to link source w (Some target) e live h =
      let q : Question = GateSize source from.name in
      let g : PlacedGate = gate_at source from in
      let t : PlacedGate = gate_at target to in
      fewer_end target ks (asking m q (joined_from m id g t link) w)
      (asking_ends (target ∷ ks) q (joined_from m id g t link) w (h.0, (module_live to.path w target e, h.1)) (live_within w source live)
      (λ a k. join_from_ends ks id g t link a (asked q w) live k))

  connected_ends : (ks : List ℕ) (id : ℕ) (from to : GatePlace) (link : Option Link) (w : World) (found : Option ℕ) → module_at from.path w ≡ found → Goes ks w → Ends ks (joined_at m id from to link w found)
  connected_ends ks id from to link w None e h = tt
  connected_ends ks id from to link w (Some source) e h = join_to_ends ks id from to link source w (module_at to.path w) refl (module_live from.path w source e) h

  freed_ends : (ks : List ℕ) (id : ℕ) (g : PlacedGate) (o : Option NextHop) (w : World) → Goes ks w → Ends ks (freed id g o w)
  freed_ends ks id g None w h = tt
  freed_ends ks id g (Some hop) w h = changed_goes ks g None w h

  disconnected_ends : (ks : List ℕ) (id : ℕ) (place : GatePlace) (w : World) (found : Option ℕ) → module_at place.path w ≡ found → Goes ks w → Ends ks (freed_at m id place w found)
  disconnected_ends ks id place w None e h = tt
  disconnected_ends ks id place w (Some source) e h =
      let g : PlacedGate = gate_at source place in
      let q : Question = GateSize source place.name in
      let live = module_live place.path w source e in
      asking_ends ks q (freed_from m id g) w h (live_within w source live)
      (λ a k. either_ends ks (is_out_gate a g.index) (next_hop m g (freed id g) (asked q w)) (broken id fault.NoGate (asked q w))
      (λ e. next_ends ks g (freed id g) (asked q w) k live (λ o v n to. freed_ends ks id g o v n)) (λ e. tt))

  -- ---- modules that are deleted

  first_ends : (ks : List ℕ) (finish : Bool) (target : ℕ) (w : World) → Goes ks w → Ends ks (finished_first b m finish target w)
  first_ends ks true target w h = finish_all_ends ks occasion.Deletion (to_finish_in target w) w h
  first_ends ks false target w h = h

  gone_holds : (target : ℕ) (w : World) → is_live w target ≡ true → Holds w → Holds (gone (subtree_of target w) w)
  gone_holds target w live h = (fits_without target w h.0, l.gone target w live h.0 h.1)

  dropped_ends : (id target : ℕ) (w : World) → is_live w target ≡ true → Goes (id ∷ []) w → Ends (id ∷ []) (subtree_dropped id target w)
  dropped_ends id target w live h = by (among id (subtree_of target w)) refl
    where
      by : (t : Bool) → among id (subtree_of target w) ≡ t → Ends (id ∷ []) (if t then Stopped (gone (subtree_of target w) w) else On (gone (subtree_of target w) w))
      by true e = gone_holds target w live h.0
      by false e = (gone_holds target w live h.0, (live_gone w (subtree_of target w) id h.1.0 e, tt))

  -- they are finished, and the module lives still
  finished_ends : (id target : ℕ) (fl : Flow) → Ends (target ∷ id ∷ []) fl → Ends (id ∷ []) (fl >>= subtree_dropped id target)
  finished_ends id target (On w) h = dropped_ends id target w h.1.0 (h.0, h.1.1)
  finished_ends id target (Stopped w) h = h
  finished_ends id target (Broken w path e) h = tt

  deleted_ends : (id : ℕ) (path : List ℕ) (finish : Bool) (w : World) (found : Option ℕ) → module_at path w ≡ found → Goes (id ∷ []) w → Ends (id ∷ []) (deleted_at b m id finish w found)
  deleted_ends id path finish w None e h = tt
  deleted_ends id path finish w (Some target) e h =
      either_ends (id ∷ []) (target == 1) (broken id fault.NoModule w) (finished_first b m finish target w >>= subtree_dropped id target) (λ t. tt)
      (λ t. finished_ends id target (finished_first b m finish target w) (first_ends (target ∷ id ∷ []) finish target w (h.0, (module_live path w target e, h.1))))

  -- ---- modules that are created

  -- everything fits, these live, and the other property holds of that id
  abbrev Builds : ℕ → List ℕ → World → Type 0
  Builds first ks w = (Fits w × Q first w) × Each (λ k. is_live w k ≡ true) (first ∷ ks)

  awaiting_goes : (ks : List ℕ) (first : ℕ) (w : World) → Builds first ks w → Goes ks (with_start first w)
  awaiting_goes ks first w h = ((fits_beside w (with_start first w) h.0.0 refl refl refl refl, l.waits first w h.1.0 h.0.1), h.1.1)

  -- a setup that leaves the other property, and all that live
  set_up_then : (ks : List ℕ) (first : ℕ) (fl : Flow) → Stays (Q first) fl → Stays (λ w. (Fits w × Each (λ k. is_live w k ≡ true) (first ∷ ks)) × (0 ≤ length w.records)) fl → Ends ks (fl >>= awaiting first)
  set_up_then ks first (On w) h k = awaiting_goes ks first w ((k.0.0, h), k.0.1)
  set_up_then ks first (Stopped w) h k = absurd h
  set_up_then ks first (Broken w path f) h k = tt

  built_by_ends : (ks : List ℕ) (levels first : ℕ) (class : Option (List ℕ)) (w : World) → HasLevels levels first w → Builds first ks w → Ends ks (built_by m levels first class w)
  built_by_ends ks levels first (Some class) w e h = awaiting_goes ks first w h
  built_by_ends ks levels first None w e h =
      set_up_then ks first (set_up levels m first w) (l.set_up levels first w h.1.0 e h.0.0 h.0.1)
      (set_up_stays (λ v. Fits v × Each (λ k. is_live v k ≡ true) (first ∷ ks)) (lives_on (first ∷ ks)) levels m 0 first w (h.0.0, h.1) (omega arith) (live_within w first h.1.0))

  built_as_ends : (ks : List ℕ) (levels first : ℕ) (a : Answer) (w : World) → HasLevels levels first w → Builds first ks w → Ends ks (built_as m levels first a w)
  built_as_ends ks levels first (answer.Class class) w e h = built_by_ends ks levels first class w e h
  built_as_ends ks levels first (answer.Fault path f) w e h = tt
  built_as_ends ks levels first (answer.Root name) w e h = tt
  built_as_ends ks levels first (answer.Inside bs) w e h = tt
  built_as_ends ks levels first (answer.Value v) w e h = tt
  built_as_ends ks levels first (answer.Gate g) w e h = tt
  built_as_ends ks levels first (answer.Next next) w e h = tt
  built_as_ends ks levels first (answer.Beyond beyond) w e h = tt
  built_as_ends ks levels first (answer.Injection i) w e h = tt
  built_as_ends ks levels first answer.Absent w e h = tt

  creating_ends : (ks : List ℕ) (parent : ℕ) (c : Creation) (w : World) → is_live w parent ≡ true → is_full (levels_in parent w) ≡ false → Goes ks w → Ends ks (creating m parent c (built_as m (levels_in parent w) (suc (length w.records))) w)
  creating_ends ks parent c w around deep h =
      let a : Answer = class_answer m parent c w in
      let r : Record = record_for parent c (class_in a) in
      let v : World = with_created parent c (class_in a) w in
      let first : ℕ = suc (length w.records) in
      let q : Question = TypeOf first in
      let within = live_within w parent around in
      let nested = nested_last 0 w.records r h.0.0.nested (omega (arith, within)) in
      let f = fits_more w v (r ∷ []) h.0.0 refl refl refl refl nested in
      let live = live_last w v r refl refl h.0.0.dead in
      let all = each_map (λ k. is_live w k ≡ true) (λ k. is_live v k ≡ true) ks (λ k e. live_more w v (r ∷ []) k refl refl e) h.1 in
      built_as_ends ks (levels_in parent w) first a (asked q v) (created_levels parent c (class_in a) w h.0.0 within deep)
      ((fits_asked q v f (live_within v first live), l.asks_within first q v (l.created parent c (class_in a) w around deep h.0.0 h.0.1)), (live, all))

  created_ends : (ks : List ℕ) (id : ℕ) (c : Creation) (w : World) (found : Option ℕ) → module_at c.parent w ≡ found → Goes ks w → Ends ks (created_in m id c w found)
  created_ends ks id c w None e h = tt
  created_ends ks id c w (Some parent) e h =
      either_ends ks (is_simple w.records parent) _ _ (λ e. tt)
      (λ s. either_ends ks (is_module_name c.name) _ _
      (λ s. either_ends ks (has_namesake parent c w) _ _ (λ s. tt)
      (λ s. either_ends ks (is_full (room_in w)) _ _ (λ s. tt)
      (λ room. either_ends ks (is_full (levels_in parent w)) _ _ (λ s. tt) (λ deep. creating_ends ks parent c w (module_live c.parent w parent e) deep h))))
      (λ s. tt))

  -- ---- actions: one line for each

  perform_ends : (id : ℕ) (action : Action) (w : World) → SendsOf S action → Goes (id ∷ []) w → Ends (id ∷ []) (perform b m id action w)
  perform_ends id (Emit signal value) w p h = deed_ends (id ∷ []) id (Emit signal value) w p h.1.0 h
  perform_ends id (RecordScalar name value) w p h = deed_ends (id ∷ []) id (RecordScalar name value) w p h.1.0 h
  perform_ends id (Send gate message) w p h = sent_ends (id ∷ []) id gate message p (Some w.clock) w h.1.0 h
  perform_ends id (SendDelayed gate message delay) w p h = sent_ends (id ∷ []) id gate message p (time_sum w.clock delay) w h.1.0 h
  perform_ends id (SendDirect place message flight) w p h = to_ends (id ∷ []) id place message p flight w (module_at place.path w) refl h
  perform_ends id (ScheduleAt a) w p h = deed_ends (id ∷ []) id (ScheduleAt a) w p h.1.0 h
  perform_ends id (ScheduleAfter s) w p h = deed_ends (id ∷ []) id (ScheduleAfter s) w p h.1.0 h
  perform_ends id (Cancel timer) w p h = deed_ends (id ∷ []) id (Cancel timer) w p h.1.0 h
  perform_ends id (Create c) w p h = created_ends (id ∷ []) id c w (module_at c.parent w) refl h
  perform_ends id (Delete path finish) w p h = deleted_ends id path finish w (module_at path w) refl h
  perform_ends id (Connect from to link) w p h = connected_ends (id ∷ []) id from to link w (module_at from.path w) refl h
  perform_ends id (Disconnect place) w p h = disconnected_ends (id ∷ []) id place w (module_at place.path w) refl h
  perform_ends id End w p h = deed_ends (id ∷ []) id End w p h.1.0 h
  perform_ends id (Fail text) w p h = deed_ends (id ∷ []) id (Fail text) w p h.1.0 h

  -- ONE CALL within an event
  pub call_ends : (id : ℕ) (reason : CallReason) (w : World) → IsToldOf T reason → Holds w → Ends [] (call_module b m id reason w)
  call_ends id reason w told h = called_ends [] (answered b m id) id reason w (instance_in id w.modules) told refl (h, tt) (λ reply v p g. answered_ends [] occasion.Event id (perform b m id) reply v (perform_ends id) p g)

  -- ---- starts

  initialize_ends : (stage id : ℕ) (w : World) → Holds w → Ends [] (initialize b m stage id w)
  initialize_ends stage id w h = either_ends [] (nat_lt stage (stages_in b (instance_in id w.modules))) (call_module b m id (prompt.Initialize stage) w) (On w) (λ e. call_ends id (prompt.Initialize stage) w tt h) (λ e. (h, tt))

  one_stage_ends : (stage : ℕ) (ids : List ℕ) (w : World) → Holds w → Ends [] (one_stage b m stage ids w)
  one_stage_ends stage [] w h = (h, tt)
  one_stage_ends stage (id ∷ ids) w h = then_ends [] (initialize b m stage id w) (for_each (initialize b m stage) ids) (initialize_ends stage id w h) (λ v g. one_stage_ends stage ids v g.0)

  stages_end : (ids : List ℕ) (stage left : ℕ) (w : World) → Holds w → Ends [] (stages_from b m ids stage left w)
  stages_end ids stage zero w h = (h, tt)
  stages_end ids stage (suc left) w h = then_ends [] (one_stage b m stage ids w) (stages_from b m ids (suc stage) left) (one_stage_ends stage ids w h) (λ v g. stages_end ids (suc stage) left v g.0)

  -- A START of modules that live, after which the property holds
  pub start_ends : (ids : List ℕ) (first : ℕ) (w : World) → AreLive w ids → Fits w → P (with_started ids (placed b (needs_of ids w) w)) → Ends [] (start_modules b m ids first w)
  start_ends ids first w live fits h = by (first_unknown b (needs_of ids w))
    where
      calls : List ℕ
      calls = outer_first w.records ids first

      by : (o : Option Part) → Ends [] (unless_unknown b (needs_of ids w) w o >>= started b m ids calls)
      by (Some p) = tt
      by None =
          let v : World = placed b (needs_of ids w) w in
          let u : World = with_started ids v in
          stages_end calls 0 (most_stages b v.modules calls) u (fits_beside v u (fits_placed b w ids fits live) refl refl refl refl, h)
