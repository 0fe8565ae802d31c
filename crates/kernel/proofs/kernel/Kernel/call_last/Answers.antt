use Rattle.std.proofs.Common.{List, ap, ◌∙◌, refl, subst}
use Rattle.module_api.specs.declared.call.CallReason.TheVariants.{Finish}
use Rattle.model_questions.specs.declared.record.Record.{Record}
use Rattle.kernel_call_views.specs.Tables.{shown_of, AreShown, IsShown}
use Rattle.kernel.specs.Calls.{answered_last, called_last}
use Rattle.kernel.specs.Kernels.{boxes_in, world_in}
use Rattle.kernel_boxes.specs.Seats.{module_in}
use Rattle.kernel.proofs.Calling.{calling_none, ok_step}
use Rattle.kernel.proofs.Starting.{told_none}
use Rattle.kernel.proofs.Shown.{told_shown, told_itself, named_step, lent_shown, shown_grows}
use Rattle.kernel.proofs.kernel.Kernel.call_last.Goals as goal

pub carry_out_last-turn-requires-clause-told : goal.carry_out_last-turn-requires-clause-told
carry_out_last-turn-requires-clause-told g c =
    told_itself g.A.Answers.answers c.args.id Finish c.args.self.now.core c.call_shown-call.result
    (told_shown g.A.Answers.answers c.args.id Finish c.args.self.now.core c.in_ok-lent.lent.shown c.call_shown-call.result (c.in_ok-lent.ensures.found ∙ ap (λ (rs : List Record). shown_of g.A.Answers.answers rs c.args.id) c.records.ensures.records) c.call_shown-call.ensures)

pub returns-clause-step : goal.returns-clause-step
returns-clause-step g c = ok_step c.carry_out_last-turn.result c.carry_out_last-turn.ensures.step (λ turn step.
    named_step (called_last g.C.Catalogue.behaviour g.A.Answers.answers c.args.occasion) g.A.Answers.answers c.args.id Finish (world_in (λ b. (g.dyn-1.0.entry b.vtable).1) c.args.self.now) (world_in (λ b. (g.dyn-1.0.entry b.vtable).1) c.carry_out_last-turn.new.self) c.call_shown-call.result turn
    (told_shown g.A.Answers.answers c.args.id Finish c.args.self.now.core c.in_ok-lent.lent.shown c.call_shown-call.result (c.in_ok-lent.ensures.found ∙ ap (λ (rs : List Record). shown_of g.A.Answers.answers rs c.args.id) c.records.ensures.records) c.call_shown-call.ensures) step)

pub returns-clause-shown : goal.returns-clause-shown
returns-clause-shown g c =
    shown_grows g.A.Answers.answers (world_in (λ b. (g.dyn-1.0.entry b.vtable).1) c.args.self.now) (world_in (λ b. (g.dyn-1.0.entry b.vtable).1) c.carry_out_last-turn.new.self) c.put_back.new.self c.carry_out_last-turn.ensures.grown
    (c.put_back.ensures.shown g.A.Answers.answers c.args.self.now.core.records
    (subst (λ (rs : List Record). AreShown g.A.Answers.answers rs c.take.new.self) c.records.ensures.records c.take.ensures.shown)
    (λ last. lent_shown g.A.Answers.answers c.args.id Finish c.args.self.now.core c.in_ok-lent.lent.shown c.call_shown-call.result c.shown_in.result (c.in_ok-lent.ensures.found ∙ ap (λ (rs : List Record). shown_of g.A.Answers.answers rs c.args.id) c.records.ensures.records) c.call_shown-call.ensures c.shown_in.ensures
    (subst (λ (rs : List Record). IsShown g.A.Answers.answers rs c.args.id (shown_of g.A.Answers.answers rs c.args.id)) c.records.ensures.records (c.in_ok-lent.ensures.lasts (c.is_shown_again-lasts.ensures last)))))

pub returns-then-is_none-clause-step : goal.returns-then-is_none-clause-step
returns-then-is_none-clause-step g c =
    calling_none g.C.Catalogue.behaviour g.A.Answers.answers (answered_last g.A.Answers.answers c.args.occasion c.args.id) c.args.id Finish c.args.self.now.core (boxes_in (λ b. (g.dyn-1.0.entry b.vtable).1) c.args.self.now) (boxes_in (λ b. (g.dyn-1.0.entry b.vtable).1) c.args.self.now)
    (told_none (module_in c.args.id (boxes_in (λ b. (g.dyn-1.0.entry b.vtable).1) c.args.self.now)) c.stages_at.result c.is_none.result c.stages_at.ensures c.is_none.ensures c.if-is_none.true, refl)
