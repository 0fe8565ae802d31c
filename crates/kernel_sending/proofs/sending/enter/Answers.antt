use Rattle.std.proofs.Common.{◌∙◌, ap, List, sym}
use Rattle.model_questions.specs.declared.record.Record.{Record}
use Rattle.run_semantics.specs.Routes.{is_simple}
use Rattle.kernel_sending.proofs.Asking.{led_to}
use Rattle.kernel_sending.proofs.Joins.{goes_on_inside}
use Rattle.kernel_sending.proofs.sending.enter.Goals as goal

pub returns-then-not-is_simple-clause-flow : goal.returns-then-not-is_simple-clause-flow
returns-then-not-is_simple-clause-flow g c =
    led_to c.send_on.result c.send_on.new.core _ _
    (goes_on_inside g.A.Answers.answers c.args.id c.args.message.now c.args.gate c.args.core.now c.args.arrival.now c.in-Some.time c.in-Some.is
    (ap (λ (rs : List Record). is_simple rs c.args.gate.id) (sym c.records.ensures.records) ∙ sym c.is_simple.ensures ∙ c.if-not-is_simple.true)) c.send_on.ensures.flow
