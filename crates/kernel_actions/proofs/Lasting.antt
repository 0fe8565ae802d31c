-- What is in the lists of a world that only grow stays there, whatever an event or the end did
-- before memory ran out.
use Rattle.std.proofs.Common.{map, length-append, ◌≡◌, IfOk, OnErr, Result, Ok, Err, append-nil, append_assoc, ℕ, suc, ◌+◌, ◌≤◌, ◌<◌, Bool, true, false, List, [], ◌∷◌, ◌++◌, Option, Some, None, refl, sym, ap, ◌∙◌, arith, subst, drop, get_or, length, slice_get, option_copied, Bor, if◌then◌else◌, ℤ, nat_lt}
use Rattle.std.proofs.Math.ListN.{drop_of_length-le}
use Rattle.std.proofs.Math.Seq.{drop-cons}
use Rattle.sim_values.specs.declared.NoMemory.{NoMemory}
use Rattle.sim_time.specs.Time.{time_sum}
use Rattle.module_api.specs.declared.reply.Action.{Action}
use Rattle.module_api.specs.declared.reply.Action.TheVariants.{Emit, RecordScalar, Send, SendDelayed, SendDirect, ScheduleAt, ScheduleAfter, Cancel, Create, Delete, Connect, Disconnect, End, Fail}
use Rattle.module_api.specs.declared.reply.Appointment.{Appointment}
use Rattle.module_api.specs.declared.reply.Schedule.{Schedule}
use Rattle.module_api.specs.Names.{is_scalar_name}
use Rattle.event_set.specs.Timers.{has_timer}
use Rattle.run_semantics.specs.declared.outcome.RunFault.TheVariants as fault
use Rattle.run_semantics.specs.declared.outcome.EventFlow.{EventFlow}
use Rattle.model_questions.specs.declared.answer.Built.{Built}
use Rattle.model_questions.specs.declared.record.Record.{Record}
use Rattle.run_semantics.specs.Run.{record_under, with_submodules}
use Rattle.run_semantics.specs.World.{World}
use Rattle.run_semantics.specs.Perform.{Flow, On, flow_of, broken, with_scalar, scheduled_at, scheduled, appointed, deed}
use Rattle.run_semantics.proofs.Orderly.{on_same}
use Rattle.run_semantics.proofs.Setup.{with_submodules-cons}
use Rattle.run_semantics.proofs.Sound.{in_flow, in_flow-of}
use Rattle.kernel_actions.specs.declared.looks.LookedAt.{LookedAt}
use Rattle.kernel_actions.specs.Positions.{IsGrownFrom}
use Rattle.kernel_actions.specs.Upcoming.{asked_in}
use Rattle.model_questions.specs.declared.answer.AskedQuestion.{AskedQuestion}

-- nothing happened
pub growth_same : (w : World) → IsGrownFrom w w
growth_same w = record {
  records = on_same w.records;
  dead = on_same w.dead;
  started = on_same w.started;
  finished = on_same w.finished;
  changes = on_same w.changes;
  emissions = on_same w.emissions;
  scalars = on_same w.scalars;
  questions = on_same w.questions;
}

-- it is the same world
pub growth_is : (v w : World) → w ≡ v → IsGrownFrom v w
growth_is v w e = subst (IsGrownFrom v) (sym e) (growth_same v)

-- of two ways on, whichever is taken
either_grows : (w : World) (c : Bool) (f g : Flow) → IsGrownFrom w (in_flow f) → IsGrownFrom w (in_flow g) → IsGrownFrom w (in_flow (if c then f else g))
either_grows w true f g h k = h
either_grows w false f g h k = k

-- ---- deeds: one line for each

timer_grows : (id timer : ℕ) (priority kind : ℤ) (w : World) (time : ℕ) → IsGrownFrom w (in_flow (scheduled_at id timer priority kind w time))
timer_grows id timer priority kind w time = either_grows w (has_timer id timer w.pending) _ _ (growth_same w) (record {
  records = on_same w.records;
  dead = on_same w.dead;
  started = on_same w.started;
  finished = on_same w.finished;
  changes = on_same w.changes;
  emissions = on_same w.emissions;
  scalars = on_same w.scalars;
  questions = on_same w.questions;
})

scheduled_grows : (id : ℕ) (s : Schedule) (w : World) (time : Option ℕ) → IsGrownFrom w (in_flow (scheduled id s w time))
scheduled_grows id s w None = growth_same w
scheduled_grows id s w (Some time) = timer_grows id s.timer s.priority s.kind w time

appointed_grows : (id : ℕ) (a : Appointment) (w : World) → IsGrownFrom w (in_flow (appointed id a w))
appointed_grows id a w = either_grows w (nat_lt a.at w.clock) (broken id fault.Past w) _ (growth_same w) (timer_grows id a.timer a.priority a.kind w a.at)

pub deed_grows : (id : ℕ) (action : Action) (w : World) → IsGrownFrom w (in_flow (deed id action w))
deed_grows id (Emit signal value) w = record {
  records = on_same w.records;
  dead = on_same w.dead;
  started = on_same w.started;
  finished = on_same w.finished;
  changes = on_same w.changes;
  emissions = (_, refl);
  scalars = on_same w.scalars;
  questions = on_same w.questions;
}
deed_grows id (RecordScalar name value) w = either_grows w (is_scalar_name name) (On (with_scalar id name value w)) (broken id fault.BadName w) (record {
  records = on_same w.records;
  dead = on_same w.dead;
  started = on_same w.started;
  finished = on_same w.finished;
  changes = on_same w.changes;
  emissions = on_same w.emissions;
  scalars = (_, refl);
  questions = on_same w.questions;
}) (growth_same w)
deed_grows id (ScheduleAt a) w = appointed_grows id a w
deed_grows id (ScheduleAfter s) w = scheduled_grows id s w (time_sum w.clock s.delay)
deed_grows id (Cancel timer) w = record {
  records = on_same w.records;
  dead = on_same w.dead;
  started = on_same w.started;
  finished = on_same w.finished;
  changes = on_same w.changes;
  emissions = on_same w.emissions;
  scalars = on_same w.scalars;
  questions = on_same w.questions;
}
deed_grows id (Fail text) w = growth_same w
deed_grows id End w = record {
  records = on_same w.records;
  dead = on_same w.dead;
  started = on_same w.started;
  finished = on_same w.finished;
  changes = on_same w.changes;
  emissions = on_same w.emissions;
  scalars = on_same w.scalars;
  questions = on_same w.questions;
}
deed_grows id (Create c) w = growth_same w
deed_grows id (Delete path finish) w = growth_same w
deed_grows id (Connect from to link) w = growth_same w
deed_grows id (Disconnect place) w = growth_same w
deed_grows id (Send gate message) w = growth_same w
deed_grows id (SendDelayed gate message delay) w = growth_same w
deed_grows id (SendDirect place message flight) w = growth_same w

-- what a flow leaves, by what the code says of it
pub flow_grows : (turn : EventFlow) (w v : World) (fl : Flow) → IsGrownFrom w (in_flow fl) → flow_of turn v ≡ fl → IsGrownFrom w v
flow_grows turn w v fl g e = subst (IsGrownFrom w) (ap in_flow (sym e) ∙ in_flow-of turn v) g

-- a deed, by what the code says of it
pub done_grows : (turn : EventFlow) (id : ℕ) (action : Action) (w v : World) → flow_of turn v ≡ deed id action w → IsGrownFrom w v
done_grows turn id action w v e = flow_grows turn w v (deed id action w) (deed_grows id action w) e

-- the same where memory may have run out, which leaves the world as it was
pub deed_left : (result : Result EventFlow NoMemory) (id : ℕ) (action : Action) (w v : World) → IfOk result (λ turn. flow_of turn v ≡ deed id action w) → OnErr result (v ≡ w) → IsGrownFrom w v
deed_left (Ok turn) id action w v done same = done_grows turn id action w v done
deed_left (Err e) id action w v done same = growth_is w v same

-- ---- loops: one more of a list

-- the element that a loop reads, and those after it
pub split_at : {X : Type 0} (index : ℕ) (xs : List X) (x : X) → index < length xs → x ≡ get_or xs index x → drop index xs ≡ x ∷ drop (index + 1) xs
split_at index xs x less e =
    let next : suc index ≡ index + 1 = omega arith in
    drop-cons xs index x less ∙ ap (λ y. y ∷ drop (suc index) xs) (sym e) ∙ ap (λ n. x ∷ drop n xs) next

-- ---- submodules that are created

-- one more
pub created_on : (parent index : ℕ) (bs : List Built) (b : Built) (w v whole : World) → index < length bs → b ≡ get_or bs index b → v ≡ with_submodules parent (b ∷ []) w → with_submodules parent (drop index bs) w ≡ whole
    → with_submodules parent (drop (index + 1) bs) v ≡ whole
created_on parent index bs b w v whole less is made done =
    ap (with_submodules parent (drop (index + 1) bs)) made
    ∙ (with_submodules-cons parent b (drop (index + 1) bs) w
    ∙ (ap (λ (xs : List Built). with_submodules parent xs w) (sym (split_at index bs b less is)) ∙ done))

-- after the last one
pub created_ends : (parent index : ℕ) (bs : List Built) (w whole : World) → length bs ≤ index → with_submodules parent (drop index bs) w ≡ whole → w ≡ whole
created_ends parent index bs w whole past done =
    ap (λ (rs : List Record). record w { records = rs }) (sym (append-nil w.records))
    ∙ (ap (λ (xs : List Built). with_submodules parent xs w) (sym (drop_of_length-le bs past)) ∙ done)

pub created_grows : (parent : ℕ) (bs : List Built) (w v : World) → v ≡ with_submodules parent bs w → IsGrownFrom w v
created_grows parent bs w v e = subst (IsGrownFrom w) (sym e) (record {
  records = (map (record_under parent) bs, refl);
  dead = on_same w.dead;
  started = on_same w.started;
  finished = on_same w.finished;
  changes = on_same w.changes;
  emissions = on_same w.emissions;
  scalars = on_same w.scalars;
  questions = on_same w.questions;
})

-- one record more
pub one_created : (parent : ℕ) (b : Built) (w v : World) → v ≡ with_submodules parent (b ∷ []) w → length v.records ≡ length w.records + 1
one_created parent b w v e = ap (λ (u : World). length u.records) e ∙ length-append w.records (record_under parent b ∷ [])

-- ---- an event that begins

pub noted_grows : (qs : List AskedQuestion) (w v : World) → v ≡ record w { questions = w.questions ++ qs } → IsGrownFrom w v
noted_grows qs w v e = subst (IsGrownFrom w) (sym e) (record {
  records = on_same w.records;
  dead = on_same w.dead;
  started = on_same w.started;
  finished = on_same w.finished;
  changes = on_same w.changes;
  emissions = on_same w.emissions;
  scalars = on_same w.scalars;
  questions = (qs, refl);
})

-- the question of one look more
pub noted_on : (count index : ℕ) (looks : List LookedAt) (look : LookedAt) (w v whole : World) → index < length looks → look ≡ get_or looks index look → w.count ≡ count → v ≡ record w { questions = w.questions ++ asked_in (w.count + 1) (look ∷ []) }
    → record w { questions = w.questions ++ asked_in (count + 1) (drop index looks) } ≡ whole → record v { questions = v.questions ++ asked_in (count + 1) (drop (index + 1) looks) } ≡ whole
noted_on count index looks look w v whole less e same step done =
    let rest : List AskedQuestion = asked_in (count + 1) (drop (index + 1) looks) in
    ap (λ (u : World). record u { questions = u.questions ++ rest }) step
    ∙ ap (λ n. record w { questions = (w.questions ++ asked_in (n + 1) (look ∷ [])) ++ rest }) same
    ∙ ap (λ (qs : List AskedQuestion). record w { questions = qs }) (append_assoc w.questions (asked_in (count + 1) (look ∷ [])) rest)
    ∙ ap (λ (ls : List LookedAt). record w { questions = w.questions ++ asked_in (count + 1) ls }) (sym (split_at index looks look less e))
    ∙ done

-- after the last one
pub noted_ends : (count index : ℕ) (looks : List LookedAt) (w whole : World) → length looks ≤ index → record w { questions = w.questions ++ asked_in (count + 1) (drop index looks) } ≡ whole → w ≡ whole
noted_ends count index looks w whole past done =
    ap (λ (qs : List AskedQuestion). record w { questions = qs }) (sym (append-nil w.questions))
    ∙ ap (λ (ls : List LookedAt). record w { questions = w.questions ++ asked_in (count + 1) ls }) (sym (drop_of_length-le looks past))
    ∙ done

-- where there is none, nothing is noted
pub noted_none : (w : World) (looks : List LookedAt) (first : Option (Bor LookedAt)) → option_copied first ≡ slice_get looks 0 → first ≡ None → w ≡ record w { questions = w.questions ++ asked_in (w.count + 1) looks }
noted_none w [] first is none = ap (λ (qs : List AskedQuestion). record w { questions = qs }) (sym (append-nil w.questions))
noted_none w (l ∷ ls) first is none = let absent : Some l ≡ None = sym is ∙ ap option_copied none in absurd cc
