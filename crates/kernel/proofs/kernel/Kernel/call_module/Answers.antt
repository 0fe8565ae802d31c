use Rattle.std.proofs.Common.{List, ap, ◌∙◌, subst}
use Rattle.model_questions.specs.declared.record.Record.{Record}
use Rattle.kernel_call_views.specs.Tables.{shown_of, AreShown, IsShown}
use Rattle.run_semantics.specs.Event.{call_module}
use Rattle.kernel.specs.Kernels.{world_in}
use Rattle.kernel.proofs.Calling.{ok_step}
use Rattle.kernel.proofs.Shown.{told_shown, told_itself, named_step, lent_shown, shown_grows}
use Rattle.kernel.proofs.kernel.Kernel.call_module.Goals as goal

pub carry_out-turn-requires-clause-told : goal.carry_out-turn-requires-clause-told
carry_out-turn-requires-clause-told g c =
    told_itself g.A.Answers.answers c.args.id c.args.prompt c.args.self.now.core c.call_shown-call.result
    (told_shown g.A.Answers.answers c.args.id c.args.prompt c.args.self.now.core c.in_ok-lent.lent.shown c.call_shown-call.result (c.in_ok-lent.ensures.found ∙ ap (λ (rs : List Record). shown_of g.A.Answers.answers rs c.args.id) c.records.ensures.records) c.call_shown-call.ensures)

pub returns-clause-step : goal.returns-clause-step
returns-clause-step g c = ok_step c.carry_out-turn.result c.carry_out-turn.ensures.step (λ turn step.
    named_step (call_module g.C.Catalogue.behaviour g.A.Answers.answers) g.A.Answers.answers c.args.id c.args.prompt (world_in (λ b. (g.dyn-1.0.entry b.vtable).1) c.args.self.now) (world_in (λ b. (g.dyn-1.0.entry b.vtable).1) c.carry_out-turn.new.self) c.call_shown-call.result turn
    (told_shown g.A.Answers.answers c.args.id c.args.prompt c.args.self.now.core c.in_ok-lent.lent.shown c.call_shown-call.result (c.in_ok-lent.ensures.found ∙ ap (λ (rs : List Record). shown_of g.A.Answers.answers rs c.args.id) c.records.ensures.records) c.call_shown-call.ensures) step)

pub returns-clause-shown : goal.returns-clause-shown
returns-clause-shown g c =
    shown_grows g.A.Answers.answers (world_in (λ b. (g.dyn-1.0.entry b.vtable).1) c.args.self.now) (world_in (λ b. (g.dyn-1.0.entry b.vtable).1) c.carry_out-turn.new.self) c.put_back.new.self c.carry_out-turn.ensures.grown
    (c.put_back.ensures.shown g.A.Answers.answers c.args.self.now.core.records
    (subst (λ (rs : List Record). AreShown g.A.Answers.answers rs c.take.new.self) c.records.ensures.records c.take.ensures.shown)
    (λ last. lent_shown g.A.Answers.answers c.args.id c.args.prompt c.args.self.now.core c.in_ok-lent.lent.shown c.call_shown-call.result c.shown_in.result (c.in_ok-lent.ensures.found ∙ ap (λ (rs : List Record). shown_of g.A.Answers.answers rs c.args.id) c.records.ensures.records) c.call_shown-call.ensures c.shown_in.ensures
    (subst (λ (rs : List Record). IsShown g.A.Answers.answers rs c.args.id (shown_of g.A.Answers.answers rs c.args.id)) c.records.ensures.records (c.in_ok-lent.ensures.lasts last))))
