-- What a reply leads to.
pub use Rattle.run_semantics.specs.Deeds.{Flow, On, Stopped, Broken, flow_of, ◌>>=◌, for_each}
pub use Rattle.run_semantics.specs.Deeds.{asking, broken, scheduled_at, scheduled, appointed}
pub use Rattle.run_semantics.specs.Deeds.{with_cancelled, with_scalar, deed}
pub use Rattle.run_semantics.specs.Sending.{channel_fault, hop_after, next_hop, past_last, with_hop}
pub use Rattle.run_semantics.specs.Sending.{after_hop, chain, completed, travelled}
unfoldable pub use Rattle.run_semantics.specs.Sending.{most_hops}
pub use Rattle.run_semantics.specs.Sending.{sent_over, sent_through, sent, entering, flight_end}
pub use Rattle.run_semantics.specs.Sending.{entered, sent_into, sent_to, sent_direct}
pub use Rattle.run_semantics.specs.Replies.{question_of, ask_all, parameter_fault, gate_fault}
pub use Rattle.run_semantics.specs.Replies.{fault_of_read, first_fault, read_fault, is_last_action}
pub use Rattle.run_semantics.specs.Replies.{is_allowed, act, act_all, acted, is_noted, ask_noted}
pub use Rattle.run_semantics.specs.Replies.{unless_fault, answered_by}
use Rattle.std.specs.Prelude.{ℕ, Some}
use Rattle.sim_time.specs.Time.{time_sum}
use Rattle.module_api.specs.declared.call.CallReason.{CallReason}
use Rattle.module_api.specs.declared.reply.Action.{Action}
use Rattle.module_api.specs.declared.reply.Action.TheVariants.{Emit, RecordScalar, Send}
use Rattle.module_api.specs.declared.reply.Action.TheVariants.{SendDelayed, SendDirect, ScheduleAt}
use Rattle.module_api.specs.declared.reply.Action.TheVariants.{ScheduleAfter, Cancel, Create, Delete}
use Rattle.module_api.specs.declared.reply.Action.TheVariants.{Connect, Disconnect, End, Fail}
use Rattle.module_api.specs.declared.reply.Reply.{Reply}
use Rattle.module_api.specs.Behaviour.{Behaviour}
use Rattle.model_questions.specs.Answers.{Answers}
use Rattle.run_semantics.specs.declared.occasions.Occasion.TheVariants as occasion
use Rattle.run_semantics.specs.Calls.{calling}
use Rattle.run_semantics.specs.Creating.{created_new}
use Rattle.run_semantics.specs.Deleting.{deleted}
use Rattle.run_semantics.specs.Joining.{connected, disconnected}
use Rattle.run_semantics.specs.World.{World}

-- ONE ACTION of the module of that id, in a catalogue and with what its model answers
abbrev pub perform : Behaviour → Answers → ℕ → Action → World → Flow
perform b m id (Emit signal value) w = deed id (Emit signal value) w
perform b m id (RecordScalar name value) w = deed id (RecordScalar name value) w
perform b m id (Send gate message) w = sent m id gate message (Some w.clock) w
perform b m id (SendDelayed gate message delay) w =
    sent m id gate message (time_sum w.clock delay) w
perform b m id (SendDirect place message flight) w = sent_direct m id place message flight w
perform b m id (ScheduleAt a) w = deed id (ScheduleAt a) w
perform b m id (ScheduleAfter s) w = deed id (ScheduleAfter s) w
perform b m id (Cancel timer) w = deed id (Cancel timer) w
perform b m id (Create c) w = created_new m id c w
perform b m id (Delete path finish) w = deleted b m id path finish w
perform b m id (Connect from to link) w = connected m id from to link w
perform b m id (Disconnect place) w = disconnected m id place w
perform b m id End w = deed id End w
perform b m id (Fail text) w = deed id (Fail text) w

-- what follows a reply within an event
abbrev pub answered : Behaviour → Answers → ℕ → Reply → World → Flow
answered b m id reply w = answered_by m (perform b m id) occasion.Event id reply w

-- ONE CALL of the module of that id within an event
abbrev pub call_module : Behaviour → Answers → ℕ → CallReason → World → Flow
call_module b m id prompt w = calling b m (answered b m id) id prompt w
