-- The worlds of a run have room for more: an action inserts one event at most.
pub use Rattle.run_semantics.proofs.Flows.{in_flow, in_flow-of}
use Rattle.std.proofs.Common.{◌≡◌, ℕ, suc, zero, ◌+◌, ◌≤◌, ◌==◌, Bool, true, false, List, [], ◌∷◌, Option, Some, None, Result, Ok, Err, refl, sym, ◌∙◌, ap, arith, subst, length, length-append, nat_lt, if◌then◌else◌, ℤ}
use Rattle.std.proofs.lemmas.Bool.Decides.{nat_tests}
use Rattle.sim_time.specs.Time.{time_sum}
use Rattle.channels.specs.declared.travels.ChannelFault.{ChannelFault}
use Rattle.channels.specs.declared.travels.Travel.{Travel}
use Rattle.channels.specs.declared.travels.Travel.TheVariants.{Arrival, Lost}
use Rattle.channels.specs.Travel.{travel}
use Rattle.module_api.specs.Behaviour.{Behaviour, Replied}
use Rattle.module_api.specs.declared.call.CallReason.{CallReason}
use Rattle.module_api.specs.declared.call.CallReason.TheVariants as prompt
use Rattle.module_api.specs.declared.reply.Action.{Action}
use Rattle.module_api.specs.Names.{is_module_name, is_scalar_name}
use Rattle.module_api.specs.declared.reply.Action.TheVariants.{Emit, RecordScalar, Send, SendDelayed, SendDirect, ScheduleAt, ScheduleAfter, Cancel, Create, Delete, Connect, Disconnect, End, Fail}
use Rattle.module_api.specs.declared.reply.Creation.{Creation}
use Rattle.module_api.specs.declared.message.Outgoing.{Outgoing}
use Rattle.module_api.specs.Actions.{has_large_payload}
use Rattle.module_api.specs.declared.reply.Flight.{Flight}
use Rattle.module_api.specs.declared.reply.GatePlace.{GatePlace}
use Rattle.module_api.specs.declared.reply.Link.{Link}
use Rattle.module_api.specs.declared.reply.OwnGate.{OwnGate}
use Rattle.module_api.specs.declared.reply.Read.{Read}
use Rattle.module_api.specs.declared.reply.Reply.{Reply}
use Rattle.module_api.specs.declared.reply.Schedule.{Schedule}
use Rattle.model_questions.specs.declared.answer.Answer.{Answer}
use Rattle.model_questions.specs.declared.answer.Answer.TheVariants as answer
use Rattle.model_questions.specs.declared.answer.Question.{Question}
use Rattle.model_questions.specs.declared.answer.Question.TheVariants.{GateSize, Hop, HopBack, TypeOf}
use Rattle.model_questions.specs.Answers.{Answers, answer_of}
use Rattle.run_semantics.specs.declared.occasions.Occasion.{Occasion}
use Rattle.run_semantics.specs.declared.occasions.Occasion.TheVariants as occasion
use Rattle.run_semantics.specs.declared.outcome.RunFault.{RunFault}
use Rattle.run_semantics.specs.declared.outcome.RunFault.TheVariants as fault
use Rattle.run_semantics.specs.declared.outcome.EventFlow.{EventFlow}
use Rattle.run_semantics.specs.declared.routes.GateChange.{GateChange}
use Rattle.run_semantics.specs.declared.routes.NextHop.{NextHop}
use Rattle.run_semantics.specs.declared.routes.PassedHop.{PassedHop}
use Rattle.run_semantics.specs.declared.routes.PlacedGate.{PlacedGate}
use Rattle.run_semantics.specs.declared.traces.Instance.{Instance}
use Rattle.run_semantics.specs.World.{World, asked}
use Rattle.event_set.specs.Timers.{has_timer}
use Rattle.run_semantics.specs.Routes.{arriving, busy_of, change_of, channels_of, hop_by, if_live, is_in_gate, is_out_gate, is_simple, is_taken, module_at, transmission_gate, transmitting, with_change}
use Rattle.run_semantics.specs.Perform.{Flow, flow_of, On, Stopped, Broken, ◌>>=◌, asking, broken, for_each, scheduled_at, scheduled, deed, hop_after, next_hop, past_last, with_hop, after_hop, chain, most_hops, travelled, sent_over, sent_through, sent, entering, flight_end, entered, sent_into, sent_to, is_allowed, is_last_action, perform, act, act_all, ask_all, ask_noted, question_of, acted, read_fault, unless_fault, answered_by, answered, call_module}
use Rattle.run_semantics.specs.Calls.{call_of, instance_in, changed, called}
use Rattle.run_semantics.specs.Finishing.{call_last, marked, finish, finish_all}
use Rattle.run_semantics.specs.Creating.{awaiting, record_for, class_in, with_created, class_answer, creating, built_as, has_namesake, is_full, levels_in, created_in}
use Rattle.run_semantics.specs.Deleting.{subtree_of, to_finish_in, finished_first, gone, subtree_dropped, deleted_at}
use Rattle.run_semantics.specs.Joining.{gate_at, channel_by, joined, joined_free, joined_into, joined_from, joined_to, joined_at, freed, freed_from, freed_at}
use Rattle.run_semantics.specs.Run.{room_in, set_up}
use Rattle.run_semantics.specs.Subtree.{among}
use Rattle.run_semantics.proofs.Setting.{IsLasting, stays_in, set_up_stays}

-- from the first world to the second: so many insertions at most, and no event more
pub record Keeps (n : ℕ) (old new : World) : Type 0 where
  pub count : new.count ≡ old.count
  pub next : new.next ≤ old.next + n

pub keeps_same : (n : ℕ) (w : World) → Keeps n w w
keeps_same n w = record { count = refl; next = omega arith }

pub keeps_on : (n m : ℕ) (u v w : World) → Keeps n u v → Keeps m v w → Keeps (n + m) u w
keeps_on n m u v w f g = record { count = g.count ∙ f.count; next = omega (arith, f.next, g.next) }

pub keeps_more : (n m : ℕ) (u v : World) → n ≤ m → Keeps n u v → Keeps m u v
keeps_more n m u v l f = record { count = f.count; next = omega (arith, f.next, l) }

pub then_keeps : (n : ℕ) (fl : Flow) (k : World → Flow) → ((w : World) → Keeps n w (in_flow (k w))) → Keeps n (in_flow fl) (in_flow (fl >>= k))
then_keeps n (On w) k h = h w
then_keeps n (Stopped w) k h = keeps_same n w
then_keeps n (Broken w path f) k h = keeps_same n w

-- of two ways on, the second only where the test fails
pub either_keeps : (n : ℕ) (c : Bool) (f g : Flow) (w : World) → Keeps n w (in_flow f) → (c ≡ false → Keeps n w (in_flow g)) → Keeps n w (in_flow (if c then f else g))
either_keeps n true f g w h k = h
either_keeps n false f g w h k = k refl

-- one part that inserts so many, and then another
pub part_then : (n m : ℕ) (w : World) (fl : Flow) (k : World → Flow) → Keeps n w (in_flow fl) → ((v : World) → Keeps m v (in_flow (k v))) → Keeps (n + m) w (in_flow (fl >>= k))
part_then n m w fl k f h = keeps_on n m w (in_flow fl) (in_flow (fl >>= k)) f (then_keeps m fl k h)

-- what leaves the count and the next number
pub keeps_beside : (n : ℕ) (u v : World) → v.count ≡ u.count → v.next ≡ u.next → Keeps n u v
keeps_beside n u v count next = record { count = count; next = omega (arith, next) }

-- after what inserts nothing
pub keeps_after : (n : ℕ) (u v w : World) → Keeps 0 u v → Keeps n v w → Keeps n u w
keeps_after n u v w f g = record { count = g.count ∙ f.count; next = omega (arith, f.next, g.next) }

asked_keeps : (n : ℕ) (q : Question) (next : Answer → World → Flow) (m : Answers) (w : World) → ((a : Answer) (v : World) → Keeps n v (in_flow (next a v))) → Keeps n w (in_flow (asking m q next w))
asked_keeps n q next m w h = keeps_after n w (asked q w) (in_flow (asking m q next w)) (keeps_beside 0 w (asked q w) refl refl) (h (answer_of m w.records q) (asked q w))

-- ---- deeds: one line for each

timer_keeps : (id timer : ℕ) (priority kind : ℤ) (w : World) (time : ℕ) → Keeps 1 w (in_flow (scheduled_at id timer priority kind w time))
timer_keeps id timer priority kind w time =
    either_keeps 1 (has_timer id timer w.pending) _ _ w (keeps_same 1 w) (λ e. record { count = refl; next = omega arith })

scheduled_keeps : (id : ℕ) (s : Schedule) (w : World) (time : Option ℕ) → Keeps 1 w (in_flow (scheduled id s w time))
scheduled_keeps id s w None = keeps_same 1 w
scheduled_keeps id s w (Some time) = timer_keeps id s.timer s.priority s.kind w time

pub deed_keeps : (id : ℕ) (action : Action) (w : World) → Keeps 1 w (in_flow (deed id action w))
deed_keeps id (Emit signal value) w = keeps_beside 1 w _ refl refl
deed_keeps id (RecordScalar name value) w = either_keeps 1 (is_scalar_name name) _ _ w (keeps_beside 1 w _ refl refl) (λ e. keeps_same 1 w)
deed_keeps id (ScheduleAt a) w = either_keeps 1 (nat_lt a.at w.clock) _ _ w (keeps_same 1 w) (λ e. timer_keeps id a.timer a.priority a.kind w a.at)
deed_keeps id (ScheduleAfter s) w = scheduled_keeps id s w (time_sum w.clock s.delay)
deed_keeps id (Cancel timer) w = keeps_beside 1 w _ refl refl
deed_keeps id (Create c) w = keeps_same 1 w
deed_keeps id (Delete path finish) w = keeps_same 1 w
deed_keeps id (Connect from to link) w = keeps_same 1 w
deed_keeps id (Disconnect place) w = keeps_same 1 w
deed_keeps id End w = keeps_beside 1 w _ refl refl
deed_keeps id (Fail text) w = keeps_same 1 w
deed_keeps id (Send gate message) w = keeps_same 1 w
deed_keeps id (SendDelayed gate message delay) w = keeps_same 1 w
deed_keeps id (SendDirect place message flight) w = keeps_same 1 w

-- what is for the end inserts nothing
pub last_keeps : (id : ℕ) (action : Action) (w : World) → Keeps 0 w (in_flow (if is_last_action action then deed id action w else broken id fault.NotInFinish w))
last_keeps id (Emit signal value) w = keeps_beside 0 w _ refl refl
last_keeps id (RecordScalar name value) w = either_keeps 0 (is_scalar_name name) _ _ w (keeps_beside 0 w _ refl refl) (λ e. keeps_same 0 w)
last_keeps id (ScheduleAt a) w = keeps_same 0 w
last_keeps id (ScheduleAfter s) w = keeps_same 0 w
last_keeps id (Cancel timer) w = keeps_beside 0 w _ refl refl
last_keeps id (Create c) w = keeps_same 0 w
last_keeps id (Delete path finish) w = keeps_same 0 w
last_keeps id (Connect from to link) w = keeps_same 0 w
last_keeps id (Disconnect place) w = keeps_same 0 w
last_keeps id End w = keeps_same 0 w
last_keeps id (Fail text) w = keeps_same 0 w
last_keeps id (Send gate message) w = keeps_same 0 w
last_keeps id (SendDelayed gate message delay) w = keeps_same 0 w
last_keeps id (SendDirect place message flight) w = keeps_same 0 w

-- ---- replies: where each action that is allowed inserts so many at most

abbrev pub EachKeeps : ℕ → Occasion → ℕ → (Action → World → Flow) → Type 0
EachKeeps n o id does = (action : Action) (w : World) → Keeps n w (in_flow (if is_allowed o action then does action w else broken id fault.NotInFinish w))

pub act_keeps : (n : ℕ) (o : Occasion) (id : ℕ) (does : Action → World → Flow) → EachKeeps n o id does → (action : Action) (w : World) → Keeps n w (in_flow (act does o id action w))
act_keeps n o id does h action w = either_keeps n (has_large_payload action) _ _ w (keeps_same n w) (λ e. h action w)

act_all_keeps : (n : ℕ) (o : Occasion) (id : ℕ) (does : Action → World → Flow) → EachKeeps n o id does → (n ≤ 1) → (actions : List Action) (w : World) → Keeps (length actions) w (in_flow (act_all does o id actions w))
act_all_keeps n o id does h l [] w = keeps_same 0 w
act_all_keeps n o id does h l (action ∷ actions) w =
    keeps_more (n + length actions) (suc (length actions)) w _ (omega (arith, l))
    (part_then n (length actions) w (act does o id action w) (for_each (act does o id) actions) (act_keeps n o id does h action w) (act_all_keeps n o id does h l actions))

none_keep : (o : Occasion) (id : ℕ) (does : Action → World → Flow) → EachKeeps 0 o id does → (actions : List Action) (w : World) → Keeps 0 w (in_flow (act_all does o id actions w))
none_keep o id does h [] w = keeps_same 0 w
none_keep o id does h (action ∷ actions) w = part_then 0 0 w (act does o id action w) (for_each (act does o id) actions) (act_keeps 0 o id does h action w) (none_keep o id does h actions)

few : (n m : ℕ) → nat_lt n m ≡ false → m ≤ n
few n m e = grind (arith, nat_tests)

ask_all-next : (id : ℕ) (reads : List Read) (w : World) → (ask_all id reads w).next ≡ w.next
ask_all-next id [] w = refl
ask_all-next id (r ∷ rs) w = ask_all-next id rs (asked (question_of id r) w)

pub ask_noted-next : (o : Occasion) (id : ℕ) (reads : List Read) (w : World) → (ask_noted o id reads w).next ≡ w.next
ask_noted-next occasion.Event id reads w = ask_all-next id reads w
ask_noted-next occasion.Deletion id reads w = ask_all-next id reads w
ask_noted-next occasion.End id reads w = refl

ask_all_keeps : (id : ℕ) (reads : List Read) (w : World) → Keeps 0 w (ask_all id reads w)
ask_all_keeps id [] w = keeps_same 0 w
ask_all_keeps id (r ∷ rs) w = let f = ask_all_keeps id rs (asked (question_of id r) w) in record { count = f.count; next = f.next }

unless_keeps : (n id : ℕ) (found : Option RunFault) (go : World → Flow) (w : World) → Keeps n w (in_flow (go w)) → Keeps n w (in_flow (unless_fault id found go w))
unless_keeps n id (Some f) go w h = keeps_same n w
unless_keeps n id None go w h = h

ask_noted_keeps : (o : Occasion) (id : ℕ) (reads : List Read) (w : World) → Keeps 0 w (ask_noted o id reads w)
ask_noted_keeps occasion.Event id reads w = ask_all_keeps id reads w
ask_noted_keeps occasion.Deletion id reads w = ask_all_keeps id reads w
ask_noted_keeps occasion.End id reads w = keeps_same 0 w

followed_keeps : (n : ℕ) (m : Answers) (o : Occasion) (id : ℕ) (does : Action → World → Flow) (reply : Reply) (w : World) → ((v : World) → nat_lt 1000 (length reply.actions) ≡ false → Keeps n v (in_flow (act_all does o id reply.actions v))) → Keeps n w (in_flow (answered_by m does o id reply w))
followed_keeps n m o id does reply w h =
    let v : World = ask_noted o id reply.reads w in
    keeps_after n w v _ (ask_noted_keeps o id reply.reads w)
    (unless_keeps n id (read_fault m w.records id reply.reads) (acted does o id reply.actions) v (either_keeps n (nat_lt 1000 (length reply.actions)) _ _ v (keeps_same n v) (λ e. h v e)))

-- so many insertions follow a call as follow a reply
called_keeps : (n : ℕ) (b : Behaviour) (m : Answers) (follow : Reply → World → Flow) (id : ℕ) (p : CallReason) (w : World) (i : Option Instance) → ((reply : Reply) (v : World) → Keeps n v (in_flow (follow reply v))) → Keeps n w (in_flow (called b m follow id p w i))
called_keeps n b m follow id p w None h = keeps_same n w
called_keeps n b m follow id p w (Some i) h =
    let r : Replied = (b.naming i.kind).reply i.state (call_of m id p w) in
    let f = h r.reply (changed id r.state w) in
    record { count = f.count; next = f.next }

-- ---- the end of modules inserts nothing

pub call_last_keeps : (b : Behaviour) (m : Answers) (o : Occasion) (id : ℕ) (w : World) → EachKeeps 0 o id (deed id) → Keeps 0 w (in_flow (call_last b m o id w))
call_last_keeps b m o id w each =
    called_keeps 0 b m (answered_by m (deed id) o id) id prompt.Finish w (instance_in id w.modules) (λ reply v. followed_keeps 0 m o id (deed id) reply v (λ u e. none_keep o id (deed id) each reply.actions u))

-- where each of their actions inserts one event at most, it inserts no more than there are
pub finish_call_keeps : (b : Behaviour) (m : Answers) (o : Occasion) (id : ℕ) (w : World) → EachKeeps 1 o id (deed id) → Keeps 1000 w (in_flow (call_last b m o id w))
finish_call_keeps b m o id w each =
    called_keeps 1000 b m (answered_by m (deed id) o id) id prompt.Finish w (instance_in id w.modules)
    (λ reply v. followed_keeps 1000 m o id (deed id) reply v (λ u e. keeps_more (length reply.actions) 1000 u _ (few 1000 (length reply.actions) e) (act_all_keeps 1 o id (deed id) each (omega arith) reply.actions u)))

pub finish_keeps : (b : Behaviour) (m : Answers) (o : Occasion) (id : ℕ) (w : World) → EachKeeps 0 o id (deed id) → Keeps 0 w (in_flow (finish b m o id w))
finish_keeps b m o id w each = part_then 0 0 w (call_last b m o id w) (marked id) (call_last_keeps b m o id w each) (λ v. keeps_beside 0 v _ refl refl)

finish_all_keeps : (b : Behaviour) (m : Answers) (ids : List ℕ) (w : World) → Keeps 0 w (in_flow (finish_all b m occasion.Deletion ids w))
finish_all_keeps b m [] w = keeps_same 0 w
finish_all_keeps b m (id ∷ ids) w = part_then 0 0 w (finish b m occasion.Deletion id w) (for_each (finish b m occasion.Deletion) ids) (finish_keeps b m occasion.Deletion id w (last_keeps id)) (finish_all_keeps b m ids)

deleted_keeps : (b : Behaviour) (m : Answers) (id : ℕ) (finish : Bool) (w : World) (found : Option ℕ) → Keeps 0 w (in_flow (deleted_at b m id finish w found))
deleted_keeps b m id finish w None = keeps_same 0 w
deleted_keeps b m id finish w (Some target) =
    either_keeps 0 (target == 1) (broken id fault.NoModule w) (finished_first b m finish target w >>= subtree_dropped id target) w (keeps_same 0 w)
    (λ e. part_then 0 0 w (finished_first b m finish target w) (subtree_dropped id target) (by finish) (λ v. dropped_by v (among id (subtree_of target v))))
  where
    by : (f : Bool) → Keeps 0 w (in_flow (finished_first b m f target w))
    by true = finish_all_keeps b m (to_finish_in target w) w
    by false = keeps_same 0 w

    dropped_by : (v : World) (c : Bool) → Keeps 0 v (in_flow (if c then Stopped (gone (subtree_of target v) v) else On (gone (subtree_of target v) v)))
    dropped_by v true = keeps_beside 0 v _ refl refl
    dropped_by v false = keeps_beside 0 v _ refl refl

-- ---- sending inserts one event at most, at its end

next_keeps : (n : ℕ) (m : Answers) (g : PlacedGate) (k : Option NextHop → World → Flow) (w : World) → ((o : Option NextHop) (v : World) → Keeps n v (in_flow (k o v))) → Keeps n w (in_flow (next_hop m g k w))
next_keeps n m g k w h = by (change_of g w.changes)
  where
    q : Question
    q = Hop g.id g.name g.index

    by : (c : Option GateChange) → Keeps n w (in_flow (hop_after m g k w c))
    by (Some c) = h (if_live w c.to) w
    by None = asked_keeps n q (λ a v. k (if_live v (hop_by v.records g.id a)) v) m w (λ a v. h (if_live v (hop_by v.records g.id a)) v)

abbrev ReachKeeps : (List PassedHop → PlacedGate → World → Flow) → Type 0
ReachKeeps r = (hops : List PassedHop) (end : PlacedGate) (v : World) → Keeps 1 v (in_flow (r hops end v))

chain_keeps : (m : Answers) (id : ℕ) (r : List PassedHop → PlacedGate → World → Flow) → ReachKeeps r → (left : ℕ) (g : PlacedGate) (passed : List PassedHop) (w : World) → Keeps 1 w (in_flow (chain m id r left g passed w))
chain_keeps m id r h zero g passed w = next_keeps 1 m g (past_last id) w past
  where
    past : (o : Option NextHop) (v : World) → Keeps 1 v (in_flow (past_last id o v))
    past None v = keeps_same 1 v
    past (Some x) v = keeps_same 1 v
chain_keeps m id r h (suc left) g passed w = next_keeps 1 m g (after_hop id (chain m id r left) r g passed) w (goes (chain_keeps m id r h left))
  where
    goes : ((g : PlacedGate) (passed : List PassedHop) (v : World) → Keeps 1 v (in_flow (chain m id r left g passed v))) → (o : Option NextHop) (v : World) → Keeps 1 v (in_flow (after_hop id (chain m id r left) r g passed o v))
    goes further None v = keeps_same 1 v
    goes further (Some x) v = either_keeps 1 (is_simple v.records x.to.id) _ _ v (h (with_hop passed g x) x.to v) (λ e. further x.to (with_hop passed g x) v)

transmitting_keeps : (g : Option PlacedGate) (until : Option ℕ) (w : World) → Keeps 0 w (transmitting g until w)
transmitting_keeps (Some g) (Some until) w = keeps_beside 0 w _ refl refl
transmitting_keeps (Some g) None w = keeps_same 0 w
transmitting_keeps None until w = keeps_same 0 w

arriving_keeps : (message : Outgoing) (end : PlacedGate) (time : ℕ) (w : World) → Keeps 1 w (arriving end message time w)
arriving_keeps message end time w = record { count = refl; next = omega arith }

travelled_keeps : (id : ℕ) (message : Outgoing) (from : Option PlacedGate) (end : PlacedGate) (w : World) (t : Result Travel ChannelFault) → Keeps 1 w (in_flow (travelled id message from end w t))
travelled_keeps id message from end w (Err f) = keeps_same 1 w
travelled_keeps id message from end w (Ok (Lost until)) = keeps_more 0 1 w _ (omega arith) (transmitting_keeps from until w)
travelled_keeps id message from end w (Ok (Arrival time until)) = keeps_after 1 w (transmitting from until w) _ (transmitting_keeps from until w) (arriving_keeps message end time (transmitting from until w))

sent_over_keeps : (id : ℕ) (message : Outgoing) (departure : Option ℕ) → ReachKeeps (sent_over id message departure)
sent_over_keeps id message None hops end v = keeps_same 1 v
sent_over_keeps id message (Some d) hops end v = travelled_keeps id message (transmission_gate hops) end v (travel (channels_of hops) d message.bits (busy_of (transmission_gate hops) v.transmissions))

sent_keeps : (m : Answers) (id : ℕ) (gate : OwnGate) (message : Outgoing) (departure : Option ℕ) (w : World) → Keeps 1 w (in_flow (sent m id gate message departure w))
sent_keeps m id gate message departure w =
    let g : PlacedGate = record { id = id; name = gate.name; index = gate.index } in
    asked_keeps 1 (GateSize id gate.name) (sent_through m id g message departure) m w
    (λ a v. either_keeps 1 (is_out_gate a gate.index) (chain m id (sent_over id message departure) most_hops g [] v) (broken id fault.NoGate v) v (chain_keeps m id (sent_over id message departure) (sent_over_keeps id message departure) most_hops g [] v) (λ e. keeps_same 1 v))

entering_keeps : (m : Answers) (id : ℕ) (message : Outgoing) (g : PlacedGate) (arrival : Option ℕ) (w : World) → Keeps 1 w (in_flow (entering m id message g arrival w))
entering_keeps m id message g None w = keeps_same 1 w
entering_keeps m id message g (Some time) w =
    either_keeps 1 (is_simple w.records g.id) (On (arriving g message time w)) (chain m id (sent_over id message (Some time)) most_hops g [] w) w (arriving_keeps message g time w) (λ e. chain_keeps m id (sent_over id message (Some time)) (sent_over_keeps id message (Some time)) most_hops g [] w)

direct_keeps : (m : Answers) (id : ℕ) (place : GatePlace) (message : Outgoing) (flight : Flight) (w : World) (found : Option ℕ) → Keeps 1 w (in_flow (sent_to m id place message flight w found))
direct_keeps m id place message flight w None = keeps_same 1 w
direct_keeps m id place message flight w (Some target) =
    let g : PlacedGate = record { id = target; name = place.name; index = place.index } in
    let q : Question = HopBack g.id g.name g.index in
    let next : Answer → World → Flow = entered m id g message flight in
    asked_keeps 1 (GateSize target place.name) (sent_into m id g message flight) m w
    (λ a v. either_keeps 1 (is_in_gate a g.index) (asking m q next v) (broken id fault.NoGate v) v
    (asked_keeps 1 q next m v (λ c u. either_keeps 1 (is_taken g c u) (broken id fault.AlreadyConnected u) (entering m id message g (flight_end u.clock flight) u) u (keeps_same 1 u) (λ e. entering_keeps m id message g (flight_end u.clock flight) u)))
    (λ e. keeps_same 1 v))

-- ---- gates that are joined and freed insert nothing

free_keeps : (m : Answers) (id : ℕ) (g t : PlacedGate) (link : Option Link) (o : Option NextHop) (w : World) → Keeps 0 w (in_flow (joined_free m id g t link o w))
free_keeps m id g t link (Some hop) w = keeps_same 0 w
free_keeps m id g t link None w = asked_keeps 0 (HopBack t.id t.name t.index) (joined id g t link) m w
    (λ a v. let u : World = with_change g (Some (record { to = t; channel = channel_by link })) v in either_keeps 0 (is_taken t a v) (broken id fault.AlreadyConnected v) (On u) v (keeps_same 0 v) (λ e. keeps_beside 0 v u refl refl))

join_keeps : (m : Answers) (id : ℕ) (from to : GatePlace) (link : Option Link) (source : ℕ) (w : World) (found : Option ℕ) → Keeps 0 w (in_flow (joined_to m id from to link source w found))
join_keeps m id from to link source w None = keeps_same 0 w
join_keeps m id from to link source w (Some target) =
    let g : PlacedGate = gate_at source from in
    let t : PlacedGate = gate_at target to in
    asked_keeps 0 (GateSize source from.name) (joined_from m id g t link) m w
    (λ a v. either_keeps 0 (is_out_gate a g.index) (asking m (GateSize t.id t.name) (joined_into m id g t link) v) (broken id fault.NoGate v) v
    (asked_keeps 0 (GateSize t.id t.name) (joined_into m id g t link) m v
    (λ c u. either_keeps 0 (is_in_gate c t.index) (next_hop m g (joined_free m id g t link) u) (broken id fault.NoGate u) u (next_keeps 0 m g (joined_free m id g t link) u (free_keeps m id g t link)) (λ e. keeps_same 0 u)))
    (λ e. keeps_same 0 v))

joined_keeps : (m : Answers) (id : ℕ) (from to : GatePlace) (link : Option Link) (w : World) (found : Option ℕ) → Keeps 0 w (in_flow (joined_at m id from to link w found))
joined_keeps m id from to link w None = keeps_same 0 w
joined_keeps m id from to link w (Some source) = join_keeps m id from to link source w (module_at to.path w)

freed_keeps : (m : Answers) (id : ℕ) (place : GatePlace) (w : World) (found : Option ℕ) → Keeps 0 w (in_flow (freed_at m id place w found))
freed_keeps m id place w None = keeps_same 0 w
freed_keeps m id place w (Some source) =
    let g : PlacedGate = gate_at source place in
    asked_keeps 0 (GateSize source place.name) (freed_from m id g) m w (λ a v. either_keeps 0 (is_out_gate a g.index) (next_hop m g (freed id g) v) (broken id fault.NoGate v) v (next_keeps 0 m g (freed id g) v free) (λ e. keeps_same 0 v))
  where
    free : (o : Option NextHop) (v : World) → Keeps 0 v (in_flow (freed id (gate_at source place) o v))
    free None v = keeps_same 0 v
    free (Some hop) v = keeps_beside 0 v _ refl refl

-- ---- a setup inserts nothing, and a module that is created its start

awaiting_keeps : (first : ℕ) (w : World) → Keeps 1 w (in_flow (awaiting first w))
awaiting_keeps first w = record { count = refl; next = omega arith }

setup_keeps : (u : World) → IsLasting (Keeps 0 u)
setup_keeps u = record { asked = λ id w p l. record { count = p.count; next = p.next }; created = λ parent bs w p l few. record { count = p.count; next = p.next } }

pub set_up_keeps : (m : Answers) (depth id : ℕ) (w : World) → id ≤ length w.records → Keeps 0 w (in_flow (set_up depth m id w))
set_up_keeps m depth id w l = (stays_in _ (set_up depth m id w) (set_up_stays (Keeps 0 w) (setup_keeps w) depth m 0 id w (keeps_same 0 w) (omega arith) l)).0

built_keeps : (m : Answers) (levels first : ℕ) (a : Answer) (w : World) → first ≤ length w.records → Keeps 1 w (in_flow (built_as m levels first a w))
built_keeps m levels first (answer.Class (Some class)) w l = awaiting_keeps first w
built_keeps m levels first (answer.Class None) w l = part_then 0 1 w (set_up levels m first w) (awaiting first) (set_up_keeps m levels first w l) (awaiting_keeps first)
built_keeps m levels first (answer.Fault path f) w l = keeps_same 1 w
built_keeps m levels first (answer.Root name) w l = keeps_same 1 w
built_keeps m levels first (answer.Inside bs) w l = keeps_same 1 w
built_keeps m levels first (answer.Value v) w l = keeps_same 1 w
built_keeps m levels first (answer.Gate g) w l = keeps_same 1 w
built_keeps m levels first (answer.Next next) w l = keeps_same 1 w
built_keeps m levels first (answer.Beyond beyond) w l = keeps_same 1 w
built_keeps m levels first (answer.Injection i) w l = keeps_same 1 w
built_keeps m levels first answer.Absent w l = keeps_same 1 w

creating_keeps : (m : Answers) (levels parent : ℕ) (c : Creation) (w : World) → Keeps 1 w (in_flow (creating m parent c (built_as m levels (suc (length w.records))) w))
creating_keeps m levels parent c w =
    let a : Answer = class_answer m parent c w in
    let v : World = with_created parent c (class_in a) w in
    let u : World = asked (TypeOf (suc (length w.records))) v in
    let more = length-append w.records (record_for parent c (class_in a) ∷ []) in
    keeps_after 1 w u (in_flow (built_as m levels (suc (length w.records)) a u)) (keeps_beside 0 w u refl refl) (built_keeps m levels (suc (length w.records)) a u (omega (arith, more)))

created_keeps : (m : Answers) (id : ℕ) (c : Creation) (w : World) (found : Option ℕ) → Keeps 1 w (in_flow (created_in m id c w found))
created_keeps m id c w None = keeps_same 1 w
created_keeps m id c w (Some parent) =
    either_keeps 1 (is_simple w.records parent) _ _ w (keeps_same 1 w)
    (λ e. either_keeps 1 (is_module_name c.name) _ _ w
    (either_keeps 1 (has_namesake parent c w) _ _ w (keeps_same 1 w)
    (λ e. either_keeps 1 (is_full (room_in w)) _ _ w (keeps_same 1 w)
    (λ e. either_keeps 1 (is_full (levels_in parent w)) _ _ w (keeps_same 1 w) (λ e. creating_keeps m (levels_in parent w) parent c w))))
    (λ e. keeps_same 1 w))

-- ---- actions: one line for each

pub perform_keeps : (b : Behaviour) (m : Answers) (id : ℕ) (action : Action) (w : World) → Keeps 1 w (in_flow (perform b m id action w))
perform_keeps b m id (Emit signal value) w = deed_keeps id (Emit signal value) w
perform_keeps b m id (RecordScalar name value) w = deed_keeps id (RecordScalar name value) w
perform_keeps b m id (Send gate message) w = sent_keeps m id gate message (Some w.clock) w
perform_keeps b m id (SendDelayed gate message delay) w = sent_keeps m id gate message (time_sum w.clock delay) w
perform_keeps b m id (SendDirect place message flight) w = direct_keeps m id place message flight w (module_at place.path w)
perform_keeps b m id (ScheduleAt a) w = deed_keeps id (ScheduleAt a) w
perform_keeps b m id (ScheduleAfter s) w = deed_keeps id (ScheduleAfter s) w
perform_keeps b m id (Cancel timer) w = deed_keeps id (Cancel timer) w
perform_keeps b m id (Create c) w = created_keeps m id c w (module_at c.parent w)
perform_keeps b m id (Delete path finish) w = keeps_more 0 1 w _ (omega arith) (deleted_keeps b m id finish w (module_at path w))
perform_keeps b m id (Connect from to link) w = keeps_more 0 1 w _ (omega arith) (joined_keeps m id from to link w (module_at from.path w))
perform_keeps b m id (Disconnect place) w = keeps_more 0 1 w _ (omega arith) (freed_keeps m id place w (module_at place.path w))
perform_keeps b m id End w = deed_keeps id End w
perform_keeps b m id (Fail text) w = deed_keeps id (Fail text) w

pub answered_keeps : (b : Behaviour) (m : Answers) (id : ℕ) (reply : Reply) (w : World) → Keeps 1000 w (in_flow (answered b m id reply w))
answered_keeps b m id reply w =
    followed_keeps 1000 m occasion.Event id (perform b m id) reply w
    (λ v e. keeps_more (length reply.actions) 1000 v _ (few 1000 (length reply.actions) e) (act_all_keeps 1 occasion.Event id (perform b m id) (perform_keeps b m id) (omega arith) reply.actions v))

pub call_keeps : (b : Behaviour) (m : Answers) (id : ℕ) (p : CallReason) (w : World) → Keeps 1000 w (in_flow (call_module b m id p w))
call_keeps b m id p w = called_keeps 1000 b m (answered b m id) id p w (instance_in id w.modules) (answered_keeps b m id)

-- what a call leaves, by what the code says of it
pub call_leaves : (b : Behaviour) (m : Answers) (id : ℕ) (p : CallReason) (turn : EventFlow) (w v : World) → flow_of turn v ≡ call_module b m id p w → Keeps 1000 w v
call_leaves b m id p turn w v e =
    let same : in_flow (call_module b m id p w) ≡ v = ap in_flow (sym e) ∙ in_flow-of turn v in
    subst (λ (u : World). Keeps 1000 w u) same (call_keeps b m id p w)
