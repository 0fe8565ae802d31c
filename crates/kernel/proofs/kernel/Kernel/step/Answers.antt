use Rattle.std.proofs.Common.{arith, ap, sym, ◌∙◌, map}
use Rattle.run_semantics.specs.Event.{happens}
use Rattle.run_semantics.specs.Run.{settled}
use Rattle.kernel_boxes.specs.Saved.{seats_held}
use Rattle.kernel_boxes.specs.Seats.{instance_of}
use Rattle.kernel.specs.Kernels.{boxes_in, world_in}
use Rattle.kernel.proofs.Apart.{with_modules}
use Rattle.kernel.proofs.Begun.{ended_waits, fresh_begins, modules_begin, none_waits}
use Rattle.kernel.proofs.Shown.{shown_grows}
use Rattle.kernel.proofs.Upcoming.{begins_boxed, begins_counted, next_begins}
use Rattle.kernel.proofs.kernel.Kernel.step.Goals as goal

pub returns-then-is_ended-clause-none : goal.returns-then-is_ended-clause-none
returns-then-is_ended-clause-none g c =
    ended_waits g.C.Catalogue.behaviour g.A.Answers.answers (world_in (λ b. (g.dyn-1.0.entry b.vtable).1) c.args.self.now) (seats_held (λ b. (g.dyn-1.0.entry b.vtable).1) c.args.waiting.now) (sym c.is_ended.ensures ∙ c.if-is_ended.true) c.requires.fresh

pub happen-requires-clause-callable : goal.happen-requires-clause-callable
happen-requires-clause-callable g c =
    let begins = begins_counted c.args.limit c.in_ok-look.next c.args.self.now.core c.begin.new.self c.in_ok-look.look c.in-Ok.event (rw c.in-Ok.is at c.in_ok-event.ensures.begins) in
    record { room = omega (arith, begins.0, begins.1, c.requires.room, c.requires.count); kinds = c.requires.kinds }

pub happen-requires-clause-modules : goal.happen-requires-clause-modules
happen-requires-clause-modules g c =
    let m = g.A.Answers.answers in
    let ms = map instance_of (boxes_in (λ b. (g.dyn-1.0.entry b.vtable).1) c.args.self.now) in
    let before = world_in (λ b. (g.dyn-1.0.entry b.vtable).1) c.args.self.now in
    let begins = begins_boxed m c.args.limit ms c.in_ok-look.next c.args.self.now.core c.begin.new.self c.in_ok-look.look c.in-Ok.event c.in_ok-look.ensures.comes (rw c.in-Ok.is at c.in_ok-event.ensures.begins) in
    modules_begin m c.args.limit c.in_ok-look.next before (with_modules ms c.begin.new.self) c.in_ok-look.look c.in-Ok.event c.in_ok-look.ensures.comes begins c.requires.modules

pub happen-requires-clause-fresh : goal.happen-requires-clause-fresh
happen-requires-clause-fresh g c =
    let m = g.A.Answers.answers in
    let ms = map instance_of (boxes_in (λ b. (g.dyn-1.0.entry b.vtable).1) c.args.self.now) in
    let before = world_in (λ b. (g.dyn-1.0.entry b.vtable).1) c.args.self.now in
    let begins = begins_boxed m c.args.limit ms c.in_ok-look.next c.args.self.now.core c.begin.new.self c.in_ok-look.look c.in-Ok.event c.in_ok-look.ensures.comes (rw c.in-Ok.is at c.in_ok-event.ensures.begins) in
    fresh_begins g.C.Catalogue.behaviour m c.args.limit before (with_modules ms c.begin.new.self) c.in-Ok.event (seats_held (λ b. (g.dyn-1.0.entry b.vtable).1) c.args.waiting.now) c.requires.limit (sym c.is_ended.ensures ∙ c.if-is_ended.false) begins c.requires.fresh

pub returns-in_ok-turn-in-Ok-clause-room : goal.returns-in_ok-turn-in-Ok-clause-room
returns-in_ok-turn-in-Ok-clause-room g c =
    let begins = begins_counted c.args.limit c.in_ok-look.next c.args.self.now.core c.begin.new.self c.in_ok-look.look c.in-Ok.event (rw c.in-Ok.is at c.in_ok-event.ensures.begins) in
    let kept = c.in_ok-turn-in-Ok.ensures.room in
    omega (arith, kept.next, kept.count, begins.0, begins.1, c.requires.room)

pub returns-in_err-event-clause-shown : goal.returns-in_err-event-clause-shown
returns-in_err-event-clause-shown g c =
    shown_grows g.A.Answers.answers c.args.self.now.core c.begin.new.self c.args.shown.now c.begin.ensures.grown c.requires.shown

pub returns-in_ok-turn-in-Ok-clause-step : goal.returns-in_ok-turn-in-Ok-clause-step
returns-in_ok-turn-in-Ok-clause-step g c =
    let b = g.C.Catalogue.behaviour in
    let m = g.A.Answers.answers in
    let ms = map instance_of (boxes_in (λ b. (g.dyn-1.0.entry b.vtable).1) c.args.self.now) in
    let before = world_in (λ b. (g.dyn-1.0.entry b.vtable).1) c.args.self.now in
    let begun = with_modules ms c.begin.new.self in
    let begins = begins_boxed m c.args.limit ms c.in_ok-look.next c.args.self.now.core c.begin.new.self c.in_ok-look.look c.in-Ok.event c.in_ok-look.ensures.comes (rw c.in-Ok.is at c.in_ok-event.ensures.begins) in
    c.settle.ensures
    ∙ ap settled (c.in_ok-turn-in-Ok.ensures.step ∙ ap (happens b m c.in-Ok.event c.in-Ok.event.what) begins.begins)
    ∙ sym (next_begins b m c.args.limit before begun c.in-Ok.event c.requires.limit (sym c.is_ended.ensures ∙ c.if-is_ended.false) begins)

pub returns-in-Err-clause-none : goal.returns-in-Err-clause-none
returns-in-Err-clause-none g c =
    let ms = map instance_of (boxes_in (λ b. (g.dyn-1.0.entry b.vtable).1) c.args.self.now) in
    none_waits g.C.Catalogue.behaviour g.A.Answers.answers c.args.limit ms c.in_ok-look.next c.args.self.now.core c.begin.new.self c.in_ok-look.look c.in-Err.outcome (seats_held (λ b. (g.dyn-1.0.entry b.vtable).1) c.args.waiting.now) c.in_ok-look.ensures.comes c.requires.limit
    (rw c.in-Err.is at c.in_ok-event.ensures.begins) c.requires.fresh
