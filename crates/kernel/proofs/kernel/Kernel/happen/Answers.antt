use Rattle.std.proofs.Common.{◌∙◌, ap, sym}
use Rattle.module_api.specs.declared.call.CallReason.TheVariants.{Message}
use Rattle.run_semantics.specs.Event.{call_module, message_of}
use Rattle.kernel_boxes.specs.Saved.{seats_held}
use Rattle.kernel.specs.Kernels.{world_in}
use Rattle.kernel.proofs.Begun.{called_none, happens_called, happens_started, start_fresh}
use Rattle.kernel.proofs.Rooms.{called_room}
use Rattle.kernel.proofs.kernel.Kernel.happen.Goals as goal

pub start_created-requires-clause-fresh : goal.start_created-requires-clause-fresh
start_created-requires-clause-fresh g c = start_fresh g.C.Catalogue.behaviour c.args.event c.args.event.what c.in-Start.last (world_in (λ b. (g.dyn-1.0.entry b.vtable).1) c.args.self.now) (seats_held (λ b. (g.dyn-1.0.entry b.vtable).1) c.args.waiting.now) c.in-Start.is c.requires.fresh

pub returns-in-Start-clause-step : goal.returns-in-Start-clause-step
returns-in-Start-clause-step g c = happens_started g.C.Catalogue.behaviour g.A.Answers.answers c.args.event c.args.event.what c.in-Start.last (world_in (λ b. (g.dyn-1.0.entry b.vtable).1) c.args.self.now) _ c.in-Start.is c.in_ok-turn.ensures.step

pub returns-clause-none : goal.returns-clause-none
returns-clause-none g c = called_none g.C.Catalogue.behaviour c.args.event c.args.event.what (world_in (λ b. (g.dyn-1.0.entry b.vtable).1) c.args.self.now) (seats_held (λ b. (g.dyn-1.0.entry b.vtable).1) c.args.waiting.now) c.in_default.not-Start c.requires.fresh

pub returns-clause-room : goal.returns-clause-room
returns-clause-room g c = called_room g.C.Catalogue.behaviour g.A.Answers.answers c.args.event.id (Message c.message_of.result) (world_in (λ b. (g.dyn-1.0.entry b.vtable).1) c.args.self.now) (world_in (λ b. (g.dyn-1.0.entry b.vtable).1) c.call_module.new.self) c.in_ok-turn-2.turn c.in_ok-turn-2.ensures.step

pub returns-clause-step : goal.returns-clause-step
returns-clause-step g c =
    let before = world_in (λ b. (g.dyn-1.0.entry b.vtable).1) c.args.self.now in
    c.in_ok-turn-2.ensures.step ∙ ap (λ message. call_module g.C.Catalogue.behaviour g.A.Answers.answers c.args.event.id (Message message) before) c.message_of.ensures ∙ sym (happens_called g.C.Catalogue.behaviour g.A.Answers.answers c.args.event c.args.event.what before c.in_default.not-Start)
