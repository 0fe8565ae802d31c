use Rattle.std.proofs.Common.{◌∙◌, sym, ap, List, ℕ, Bool}
use Rattle.model_questions.specs.declared.answer.Question.TheVariants.{HopBack}
use Rattle.run_semantics.specs.Perform.{asking}
use Rattle.run_semantics.specs.Routes.{is_taken}
use Rattle.kernel_sending.proofs.sending.is_taken.Goals as goal

pub returns-clause-asked : goal.returns-clause-asked
returns-clause-asked g c = λ next.
    sym (ap (λ (name : List ℕ). asking g.A.Answers.answers (HopBack c.args.gate.now.id name c.args.gate.now.index) (λ a v. next (is_taken c.args.gate.now a v) v) c.args.core.now) c.in_ok-copy.ensures)
    ∙ c.in_ok-found.ensures.asked (λ a v. next (is_taken c.args.gate.now a v) v)
    ∙ ap (λ (b : Bool). next b c.ask.new.core) (sym c.is_taken.ensures)
