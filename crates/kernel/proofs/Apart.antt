-- Deeds and questions neither read nor change modules.
use Rattle.std.proofs.Common.{◌≡◌, ℕ, List, [], ◌∷◌, refl, sym, ap, ◌∙◌, Bool, true, false, Option, Some, None, nat_lt, if◌then◌else◌, ℤ}
use Rattle.sim_time.specs.Time.{time_sum}
use Rattle.module_api.specs.declared.reply.Action.{Action}
use Rattle.module_api.specs.Names.{is_scalar_name}
use Rattle.module_api.specs.declared.reply.Action.TheVariants.{Emit, RecordScalar, Send, SendDelayed, SendDirect, ScheduleAt, ScheduleAfter, Cancel, Create, Delete, Connect, Disconnect, End, Fail}
use Rattle.module_api.specs.declared.reply.Read.{Read}
use Rattle.module_api.specs.declared.reply.Appointment.{Appointment}
use Rattle.module_api.specs.declared.reply.Schedule.{Schedule}
use Rattle.model_questions.specs.Answers.{Answers}
use Rattle.run_semantics.specs.declared.occasions.Occasion.{Occasion}
use Rattle.run_semantics.specs.declared.occasions.Occasion.TheVariants as occasion
use Rattle.run_semantics.specs.declared.outcome.RunFault.{RunFault}
use Rattle.run_semantics.specs.declared.outcome.EventFlow.{EventFlow}
use Rattle.run_semantics.specs.declared.outcome.EventFlow.TheVariants.{GoOn, Stop, Break}
use Rattle.run_semantics.specs.declared.traces.Instance.{Instance}
use Rattle.run_semantics.specs.World.{World, asked}
use Rattle.event_set.specs.Timers.{has_timer}
use Rattle.run_semantics.specs.Perform.{Flow, On, Stopped, Broken, flow_of, scheduled_at, scheduled, appointed, deed, ask_all, ask_noted, question_of, broken}
use Rattle.run_semantics.specs.Run.{prepared}
use Rattle.run_semantics.proofs.Setting.{IsLasting, Stays, prepared_stays}

-- the world, with these modules
abbrev pub with_modules : List Instance → World → World
with_modules ms w = record w { modules = ms }

abbrev pub flow_with : List Instance → Flow → Flow
flow_with ms (On w) = On (with_modules ms w)
flow_with ms (Stopped w) = Stopped (with_modules ms w)
flow_with ms (Broken w path f) = Broken (with_modules ms w) path f

pub flow_of_with : (ms : List Instance) (turn : EventFlow) (w : World) → flow_of turn (with_modules ms w) ≡ flow_with ms (flow_of turn w)
flow_of_with ms GoOn w = refl
flow_of_with ms Stop w = refl
flow_of_with ms (Break path f) w = refl

pub either_apart : (ms : List Instance) (c : Bool) (f g h k : Flow) → f ≡ flow_with ms h → g ≡ flow_with ms k → (if c then f else g) ≡ flow_with ms (if c then h else k)
either_apart ms true f g h k e d = e
either_apart ms false f g h k e d = d

-- ---- deeds: one line for each

timer_apart : (ms : List Instance) (id timer : ℕ) (priority kind : ℤ) (w : World) (time : ℕ) → scheduled_at id timer priority kind (with_modules ms w) time ≡ flow_with ms (scheduled_at id timer priority kind w time)
timer_apart ms id timer priority kind w time = either_apart ms (has_timer id timer w.pending) _ _ _ _ refl refl

scheduled_apart : (ms : List Instance) (id : ℕ) (s : Schedule) (w : World) (time : Option ℕ) → scheduled id s (with_modules ms w) time ≡ flow_with ms (scheduled id s w time)
scheduled_apart ms id s w None = refl
scheduled_apart ms id s w (Some time) = timer_apart ms id s.timer s.priority s.kind w time

appointed_apart : (ms : List Instance) (id : ℕ) (a : Appointment) (w : World) → appointed id a (with_modules ms w) ≡ flow_with ms (appointed id a w)
appointed_apart ms id a w = either_apart ms (nat_lt a.at w.clock) _ _ _ _ refl (timer_apart ms id a.timer a.priority a.kind w a.at)

pub deed_apart : (ms : List Instance) (id : ℕ) (action : Action) (w : World) → deed id action (with_modules ms w) ≡ flow_with ms (deed id action w)
deed_apart ms id (Emit signal value) w = refl
deed_apart ms id (RecordScalar name value) w = either_apart ms (is_scalar_name name) _ _ _ _ refl refl
deed_apart ms id (ScheduleAt a) w = appointed_apart ms id a w
deed_apart ms id (ScheduleAfter s) w = scheduled_apart ms id s w (time_sum w.clock s.delay)
deed_apart ms id (Cancel timer) w = refl
deed_apart ms id (Fail text) w = refl
deed_apart ms id (Create c) w = refl
deed_apart ms id (Delete path finish) w = refl
deed_apart ms id (Connect from to link) w = refl
deed_apart ms id (Disconnect place) w = refl
deed_apart ms id End w = refl
deed_apart ms id (Send gate message) w = refl
deed_apart ms id (SendDelayed gate message delay) w = refl
deed_apart ms id (SendDirect place message flight) w = refl

-- ---- what the code of a core does to the world with these modules

-- the fault of a module
pub broken_is : (ms : List Instance) (id : ℕ) (f : RunFault) (core core' : World) (turn : EventFlow) → core' ≡ core → flow_of turn core ≡ broken id f core → flow_of turn (with_modules ms core') ≡ broken id f (with_modules ms core)
broken_is ms id f core core' turn same e =
    ap (λ w. flow_of turn (with_modules ms w)) same ∙ flow_of_with ms turn core ∙ ap (flow_with ms) e

-- a deed
pub deed_is : (ms : List Instance) (id : ℕ) (action : Action) (core core' : World) (turn : EventFlow) → flow_of turn core' ≡ deed id action core → flow_of turn (with_modules ms core') ≡ deed id action (with_modules ms core)
deed_is ms id action core core' turn e = flow_of_with ms turn core' ∙ ap (flow_with ms) e ∙ sym (deed_apart ms id action core)

-- the questions of reads
ask_all_apart : (ms : List Instance) (id : ℕ) (reads : List Read) (w : World) → ask_all id reads (with_modules ms w) ≡ with_modules ms (ask_all id reads w)
ask_all_apart ms id [] w = refl
ask_all_apart ms id (r ∷ rs) w = ask_all_apart ms id rs (asked (question_of id r) w)

pub ask_noted_apart : (ms : List Instance) (o : Occasion) (id : ℕ) (reads : List Read) (w : World) → ask_noted o id reads (with_modules ms w) ≡ with_modules ms (ask_noted o id reads w)
ask_noted_apart ms occasion.Event id reads w = ask_all_apart ms id reads w
ask_noted_apart ms occasion.Deletion id reads w = ask_all_apart ms id reads w
ask_noted_apart ms occasion.End id reads w = refl

-- ---- setup

-- a setup places no module
none_lasts : IsLasting (λ w. w.modules ≡ [])
none_lasts = record { asked = λ id w e l. e; created = λ parent bs w e l few. e }

with_none : (fl : Flow) → Stays (λ w. w.modules ≡ []) fl → flow_with [] fl ≡ fl
with_none (On w) h = ap (λ ms. On (with_modules ms w)) (sym h)
with_none (Stopped w) h = absurd h
with_none (Broken w path f) h = ap (λ ms. Broken (with_modules ms w) path f) (sym h)

pub prepared_apart : (m : Answers) → flow_with [] (prepared m) ≡ prepared m
prepared_apart m = with_none (prepared m) (prepared_stays (λ w. w.modules ≡ []) m none_lasts refl (λ name. refl))
