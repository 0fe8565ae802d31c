use Rattle.std.proofs.Common.{Ok, map, sym, ap, ◌∙◌, arith, subst}
use Rattle.module_api.specs.declared.call.Call.{Call}
use Rattle.model_questions.specs.Answers.{parameters_of}
use Rattle.run_semantics.specs.World.{World}
use Rattle.run_semantics.specs.Perform.{On}
use Rattle.kernel.specs.Calls.{answered_last}
use Rattle.kernel_boxes.specs.Seats.{instance_of}
use Rattle.kernel.specs.Seats.{world_of, IsCalled}
use Rattle.kernel.specs.Kernels.{boxes_in}
use Rattle.kernel_actions.specs.Positions.{IsGrownFrom}
use Rattle.kernel_actions.proofs.Lasting.{growth_is}
use Rattle.kernel.proofs.Calling.{boxed_grows, calling_is, calling_none, ok_step, served_kept}
use Rattle.kernel.proofs.Last.{last_is}
use Rattle.kernel.proofs.kernel.Kernel.carry_out_last.Goals as goal

pub returns-in_default-clause-step : goal.returns-in_default-clause-step
returns-in_default-clause-step g c =
    ap (λ core. On (world_of core (boxes_in (λ b. (g.dyn-1.0.entry b.vtable).1) c.reply_of.new.self))) c.reply_of.ensures.core
    ∙ calling_none g.C.Catalogue.behaviour g.A.Answers.answers (answered_last g.A.Answers.answers c.args.occasion c.args.call.now.id) c.args.call.now.id c.args.call.now.prompt c.args.self.now.core (boxes_in (λ b. (g.dyn-1.0.entry b.vtable).1) c.args.self.now) (boxes_in (λ b. (g.dyn-1.0.entry b.vtable).1) c.reply_of.new.self) (rw c.in_default.is at c.reply_of.ensures.served)

pub returns-in_err-reply-clause-kept : goal.returns-in_err-reply-clause-kept
returns-in_err-reply-clause-kept g c =
    served_kept g.C.Catalogue.behaviour c.args.call.now.id (boxes_in (λ b. (g.dyn-1.0.entry b.vtable).1) c.args.self.now) (boxes_in (λ b. (g.dyn-1.0.entry b.vtable).1) c.reply_of.new.self) _ c.reply_of.result c.reply_of.ensures.served c.requires.callable.kinds

pub follow_last-requires-clause-told : goal.follow_last-requires-clause-told
follow_last-requires-clause-told g c =
    ap (λ (k : Call). k.parameters) c.requires.told
    ∙ ap (λ (w : World). parameters_of g.A.Answers.answers w.records c.args.call.now.id) (sym c.reply_of.ensures.core)

pub follow_last-requires-clause-next : goal.follow_last-requires-clause-next
follow_last-requires-clause-next g c = omega (arith, c.requires.callable.room, ap (λ (w : World). w.next) c.reply_of.ensures.core)

pub returns-clause-kept : goal.returns-clause-kept
returns-clause-kept g c =
    served_kept g.C.Catalogue.behaviour c.args.call.now.id (boxes_in (λ b. (g.dyn-1.0.entry b.vtable).1) c.args.self.now) (boxes_in (λ b. (g.dyn-1.0.entry b.vtable).1) c.reply_of.new.self) _ c.reply_of.result c.reply_of.ensures.served c.requires.callable.kinds

pub returns-clause-step : goal.returns-clause-step
returns-clause-step g c = ok_step c.follow_last.result c.follow_last.ensures.step (λ turn step.
    calling_is g.C.Catalogue.behaviour g.A.Answers.answers (answered_last g.A.Answers.answers c.args.occasion c.args.call.now.id) c.args.call.now.id c.args.call.now.prompt c.args.self.now.core _ (boxes_in (λ b. (g.dyn-1.0.entry b.vtable).1) c.args.self.now) (boxes_in (λ b. (g.dyn-1.0.entry b.vtable).1) c.reply_of.new.self)
    c.in_ok-reply.reply turn c.requires.callable.kinds
    (subst (λ (k : Call). IsCalled c.args.call.now.id (boxes_in (λ b. (g.dyn-1.0.entry b.vtable).1) c.args.self.now) (boxes_in (λ b. (g.dyn-1.0.entry b.vtable).1) c.reply_of.new.self) k (Ok c.in_ok-reply.reply)) c.requires.told (rw c.in_ok-reply.was at c.in-Some.ensures.served))
    (last_is (map instance_of (boxes_in (λ b. (g.dyn-1.0.entry b.vtable).1) c.reply_of.new.self)) g.A.Answers.answers c.args.occasion c.args.call.now.id c.in_ok-reply.reply c.reply_of.new.self.core c.follow_last.new.core turn step ∙ ap (λ core. (answered_last g.A.Answers.answers c.args.occasion c.args.call.now.id) c.in_ok-reply.reply (world_of core (boxes_in (λ b. (g.dyn-1.0.entry b.vtable).1) c.reply_of.new.self))) c.reply_of.ensures.core))

pub returns-in_default-clause-grown : goal.returns-in_default-clause-grown
returns-in_default-clause-grown g c =
    boxed_grows c.args.self.now.core c.reply_of.new.self.core (boxes_in (λ b. (g.dyn-1.0.entry b.vtable).1) c.args.self.now) (boxes_in (λ b. (g.dyn-1.0.entry b.vtable).1) c.reply_of.new.self) (growth_is c.args.self.now.core c.reply_of.new.self.core c.reply_of.ensures.core)

pub returns-in_err-reply-clause-grown : goal.returns-in_err-reply-clause-grown
returns-in_err-reply-clause-grown g c =
    boxed_grows c.args.self.now.core c.reply_of.new.self.core (boxes_in (λ b. (g.dyn-1.0.entry b.vtable).1) c.args.self.now) (boxes_in (λ b. (g.dyn-1.0.entry b.vtable).1) c.reply_of.new.self) (growth_is c.args.self.now.core c.reply_of.new.self.core c.reply_of.ensures.core)

pub returns-clause-grown : goal.returns-clause-grown
returns-clause-grown g c =
    boxed_grows c.args.self.now.core c.follow_last.new.core (boxes_in (λ b. (g.dyn-1.0.entry b.vtable).1) c.args.self.now) (boxes_in (λ b. (g.dyn-1.0.entry b.vtable).1) c.reply_of.new.self) (subst (λ (w : World). IsGrownFrom w c.follow_last.new.core) c.reply_of.ensures.core c.follow_last.ensures.grown)
