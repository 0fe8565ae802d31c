use Rattle.std.proofs.Common.{◌∙◌, sym, ap, List, ℕ, Bool}
use Rattle.model_questions.specs.declared.answer.Question.TheVariants.{GateSize}
use Rattle.run_semantics.specs.Perform.{asking}
use Rattle.run_semantics.specs.Routes.{is_out_gate}
use Rattle.kernel_sending.proofs.sending.can_leave.Goals as goal

pub returns-clause-asked : goal.returns-clause-asked
returns-clause-asked g c = λ next.
    sym (ap (λ (name : List ℕ). asking g.A.Answers.answers (GateSize c.args.id name) (λ a v. next (is_out_gate a c.args.index) v) c.args.core.now) c.in_ok-text.ensures)
    ∙ c.in_ok-found.ensures.asked (λ a v. next (is_out_gate a c.args.index) v)
    ∙ ap (λ (b : Bool). next b c.ask.new.core) (sym c.is_out_gate.ensures)
