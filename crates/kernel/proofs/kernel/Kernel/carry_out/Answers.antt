use Rattle.std.proofs.Common.{Ok, map, sym, ap, ◌∙◌, arith, subst}
use Rattle.module_api.specs.declared.call.Call.{Call}
use Rattle.model_questions.specs.Answers.{parameters_of}
use Rattle.run_semantics.specs.World.{World}
use Rattle.run_semantics.specs.Perform.{On, answered}
use Rattle.kernel.specs.Seats.{world_of, IsCalled}
use Rattle.kernel.specs.Kernels.{boxes_in}
use Rattle.kernel_actions.specs.Positions.{IsGrownFrom}
use Rattle.kernel_actions.proofs.Lasting.{growth_is}
use Rattle.kernel.proofs.Calling.{boxed_grows, calling_is, calling_none, ok_step, served_kept}
use Rattle.kernel.proofs.kernel.Kernel.carry_out.Goals as goal

pub returns-in_default-clause-step : goal.returns-in_default-clause-step
returns-in_default-clause-step g c =
    ap (λ core. On (world_of core (boxes_in (λ b. (g.dyn-1.0.entry b.vtable).1) c.reply_of.new.self))) c.reply_of.ensures.core
    ∙ calling_none g.C.Catalogue.behaviour g.A.Answers.answers (answered g.C.Catalogue.behaviour g.A.Answers.answers c.args.call.now.id) c.args.call.now.id c.args.call.now.prompt c.args.self.now.core (boxes_in (λ b. (g.dyn-1.0.entry b.vtable).1) c.args.self.now) (boxes_in (λ b. (g.dyn-1.0.entry b.vtable).1) c.reply_of.new.self) (rw c.in_default.is at c.reply_of.ensures.served)

pub returns-in_err-reply-clause-kinds : goal.returns-in_err-reply-clause-kinds
returns-in_err-reply-clause-kinds g c =
    (served_kept g.C.Catalogue.behaviour c.args.call.now.id (boxes_in (λ b. (g.dyn-1.0.entry b.vtable).1) c.args.self.now) (boxes_in (λ b. (g.dyn-1.0.entry b.vtable).1) c.reply_of.new.self) _ c.reply_of.result c.reply_of.ensures.served c.requires.callable.kinds).kinds

pub follow-requires-clause-told : goal.follow-requires-clause-told
follow-requires-clause-told g c =
    ap (λ (k : Call). k.parameters) c.requires.told
    ∙ ap (λ (w : World). parameters_of g.A.Answers.answers w.records c.args.call.now.id) (sym c.reply_of.ensures.core)

pub follow-requires-clause-callable : goal.follow-requires-clause-callable
follow-requires-clause-callable g c = record {
  room = omega (arith, c.requires.callable.room, ap (λ (w : World). w.next) c.reply_of.ensures.core);
  kinds = (served_kept g.C.Catalogue.behaviour c.args.call.now.id (boxes_in (λ b. (g.dyn-1.0.entry b.vtable).1) c.args.self.now) (boxes_in (λ b. (g.dyn-1.0.entry b.vtable).1) c.reply_of.new.self) _ c.reply_of.result c.reply_of.ensures.served c.requires.callable.kinds).kinds;
}

pub returns-in_default-clause-kinds : goal.returns-in_default-clause-kinds
returns-in_default-clause-kinds g c = (served_kept g.C.Catalogue.behaviour c.args.call.now.id (boxes_in (λ b. (g.dyn-1.0.entry b.vtable).1) c.args.self.now) (boxes_in (λ b. (g.dyn-1.0.entry b.vtable).1) c.reply_of.new.self) _ c.reply_of.result c.reply_of.ensures.served c.requires.callable.kinds).kinds

pub returns-clause-step : goal.returns-clause-step
returns-clause-step g c = ok_step c.follow.result c.follow.ensures.step (λ turn step.
    calling_is g.C.Catalogue.behaviour g.A.Answers.answers (answered g.C.Catalogue.behaviour g.A.Answers.answers c.args.call.now.id) c.args.call.now.id c.args.call.now.prompt c.args.self.now.core _ (boxes_in (λ b. (g.dyn-1.0.entry b.vtable).1) c.args.self.now) (boxes_in (λ b. (g.dyn-1.0.entry b.vtable).1) c.reply_of.new.self)
    c.in_ok-reply.reply turn c.requires.callable.kinds
    (subst (λ (k : Call). IsCalled c.args.call.now.id (boxes_in (λ b. (g.dyn-1.0.entry b.vtable).1) c.args.self.now) (boxes_in (λ b. (g.dyn-1.0.entry b.vtable).1) c.reply_of.new.self) k (Ok c.in_ok-reply.reply)) c.requires.told (rw c.in_ok-reply.was at c.in-Some.ensures.served))
    (step ∙ ap (λ core. (answered g.C.Catalogue.behaviour g.A.Answers.answers c.args.call.now.id) c.in_ok-reply.reply (world_of core (boxes_in (λ b. (g.dyn-1.0.entry b.vtable).1) c.reply_of.new.self))) c.reply_of.ensures.core))

pub returns-in_default-clause-grown : goal.returns-in_default-clause-grown
returns-in_default-clause-grown g c =
    boxed_grows c.args.self.now.core c.reply_of.new.self.core (boxes_in (λ b. (g.dyn-1.0.entry b.vtable).1) c.args.self.now) (boxes_in (λ b. (g.dyn-1.0.entry b.vtable).1) c.reply_of.new.self) (growth_is c.args.self.now.core c.reply_of.new.self.core c.reply_of.ensures.core)

pub returns-in_err-reply-clause-grown : goal.returns-in_err-reply-clause-grown
returns-in_err-reply-clause-grown g c =
    boxed_grows c.args.self.now.core c.reply_of.new.self.core (boxes_in (λ b. (g.dyn-1.0.entry b.vtable).1) c.args.self.now) (boxes_in (λ b. (g.dyn-1.0.entry b.vtable).1) c.reply_of.new.self) (growth_is c.args.self.now.core c.reply_of.new.self.core c.reply_of.ensures.core)

pub returns-clause-grown : goal.returns-clause-grown
returns-clause-grown g c =
    boxed_grows c.args.self.now.core c.follow.new.self.core (boxes_in (λ b. (g.dyn-1.0.entry b.vtable).1) c.args.self.now) (boxes_in (λ b. (g.dyn-1.0.entry b.vtable).1) c.follow.new.self) (subst (λ (w : World). IsGrownFrom w c.follow.new.self.core) c.reply_of.ensures.core c.follow.ensures.grown)
