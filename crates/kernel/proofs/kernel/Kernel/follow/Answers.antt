use Rattle.std.proofs.Common.{ap, ◌∙◌, arith, map}
use Rattle.run_semantics.specs.declared.occasions.Occasion.TheVariants.{Event}
use Rattle.run_semantics.specs.Perform.{perform}
use Rattle.run_semantics.specs.World.{World}
use Rattle.run_semantics.proofs.Sound.{ask_noted-next}
use Rattle.kernel_boxes.specs.Seats.{instance_of}
use Rattle.kernel.specs.Kernels.{boxes_in, world_in}
use Rattle.kernel.proofs.Calling.{ok_step}
use Rattle.kernel.proofs.Following.{follow_broken, follow_on}
use Rattle.kernel.proofs.kernel.Kernel.follow.Goals as goal

pub act_few-requires : goal.act_few-requires
act_few-requires g c = record {
  callable = record {
    room = omega (arith, c.requires.callable.room, ap (λ (w : World). w.next) c.in_ok-ask_noted.ensures.noted ∙ ask_noted-next Event c.args.call.now.id c.as_slice-reads.result.now c.args.self.now.core);
    kinds = c.requires.callable.kinds;
  };
}

pub returns-in-Some-clause-step : goal.returns-in-Some-clause-step
returns-in-Some-clause-step g c = ok_step c.broken.result c.broken.ensures (λ turn step.
    follow_broken g.A.Answers.answers (perform g.C.Catalogue.behaviour g.A.Answers.answers c.args.call.now.id) Event (map instance_of (boxes_in (λ b. (g.dyn-1.0.entry b.vtable).1) c.args.self.now)) c.args.call.now.id c.args.reply.now c.args.self.now.core c.ask_noted.new.self c.in_ok-fault.fault c.in-Some.fault turn c.as_slice-reads.result.now c.as_slice-reads.ensures
    c.in_ok-fault.ensures c.in-Some.is c.in_ok-ask_noted.ensures.noted step)

pub returns-in-None-clause-step : goal.returns-in-None-clause-step
returns-in-None-clause-step g c = ok_step c.act_few.result c.act_few.ensures.step (λ turn step.
    follow_on g.A.Answers.answers (perform g.C.Catalogue.behaviour g.A.Answers.answers c.args.call.now.id) Event (map instance_of (boxes_in (λ b. (g.dyn-1.0.entry b.vtable).1) c.args.self.now)) c.args.call.now.id c.args.reply.now c.args.self.now.core c.ask_noted.new.self (world_in (λ b. (g.dyn-1.0.entry b.vtable).1) c.act_few.new.self) c.in_ok-fault.fault turn c.as_slice-reads.result.now c.as_slice.result.now c.as_slice-reads.ensures c.as_slice.ensures
    c.in_ok-fault.ensures c.in-None.is c.in_ok-ask_noted.ensures.noted step)
