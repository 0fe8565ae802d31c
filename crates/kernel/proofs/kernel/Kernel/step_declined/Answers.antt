use Rattle.std.proofs.Common.{ap, refl, sym, ◌∙◌, map}
use Rattle.run_semantics.specs.declared.outcome.RunFault.TheVariants.{UnknownClass}
use Rattle.run_semantics.specs.Event.{happens}
use Rattle.run_semantics.specs.Run.{settled, wanted}
use Rattle.kernel_boxes.specs.Seats.{instance_of}
use Rattle.kernel.specs.Kernels.{boxes_in, world_in}
use Rattle.kernel.proofs.Apart.{broken_is, with_modules}
use Rattle.kernel.proofs.Begun.{declined_begins, declined_goes, declined_start, wants_none}
use Rattle.kernel.proofs.Upcoming.{begins_boxed, next_begins}
use Rattle.kernel.proofs.kernel.Kernel.step_declined.Goals as goal

pub returns-in-Ok-clause-step : goal.returns-in-Ok-clause-step
returns-in-Ok-clause-step g c =
    let b = g.C.Catalogue.behaviour in
    let m = g.A.Answers.answers in
    let ms = map instance_of (boxes_in (λ b. (g.dyn-1.0.entry b.vtable).1) c.args.self.now) in
    let before = world_in (λ b. (g.dyn-1.0.entry b.vtable).1) c.args.self.now in
    let begun = with_modules ms c.begin.new.self in
    let begins = begins_boxed m c.args.limit ms c.in_ok-look.next c.args.self.now.core c.begin.new.self c.in_ok-look.look c.in-Ok.field-0 c.in_ok-look.ensures.comes (rw c.in-Ok.is at c.in_ok-begun.ensures.begins) in
    let going = declined_goes b m before c.args.id c.requires.unknown in
    c.settle.ensures
    ∙ ap settled (broken_is ms c.args.id UnknownClass c.begin.new.self c.begin.new.self c.in_ok-turn-in-Ok.turn refl c.in_ok-turn-in-Ok.ensures ∙ sym (declined_start b m c.args.limit before begun c.in-Ok.field-0 c.args.id c.requires.limit going begins c.requires.unknown) ∙ ap (happens b m c.in-Ok.field-0 c.in-Ok.field-0.what) begins.begins)
    ∙ sym (next_begins b m c.args.limit before begun c.in-Ok.field-0 c.requires.limit going begins)

pub returns-clause-step : goal.returns-clause-step
returns-clause-step g c =
    let m = g.A.Answers.answers in
    let ms = map instance_of (boxes_in (λ b. (g.dyn-1.0.entry b.vtable).1) c.args.self.now) in
    let before = world_in (λ b. (g.dyn-1.0.entry b.vtable).1) c.args.self.now in
    let none = wants_none m c.args.limit ms c.in_ok-look.next c.args.self.now.core c.begin.new.self c.in_ok-look.look c.in-Err.outcome c.in_ok-look.ensures.comes c.requires.limit (rw c.in-Err.is at c.in_ok-begun.ensures.begins) in
    absurd (declined_begins g.C.Catalogue.behaviour (wanted m before) c.args.id none c.requires.unknown)
