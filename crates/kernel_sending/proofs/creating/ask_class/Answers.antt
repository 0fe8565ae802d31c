use Rattle.std.proofs.Common.{None, ◌+◌, ◌∙◌, ap, arith, length}
use Rattle.model_questions.specs.declared.answer.Question.TheVariants.{TypeOf}
use Rattle.model_questions.specs.Answers.{answer_of}
use Rattle.kernel_actions.proofs.Lasting.{growth_is}
use Rattle.kernel_sending.proofs.Creations.{class_told, created_cut, created_grows}
use Rattle.kernel_sending.proofs.creating.ask_class.Goals as goal

pub returns-in_err-add_created-clause-grown : goal.returns-in_err-add_created-clause-grown
returns-in_err-add_created-clause-grown g c = growth_is c.args.core.now c.add_created.new.self c.in_err-add_created.ensures.err

pub returns-in_err-answer-clause-grown : goal.returns-in_err-answer-clause-grown
returns-in_err-answer-clause-grown g c = created_grows c.args.parent c.args.creation.now None c.args.core.now c.add_created.new.self c.in_ok-add_created.ensures.ok

pub returns-clause-answer : goal.returns-clause-answer
returns-clause-answer g c =
    let many = ap length c.records-last.ensures.records in
    class_told g.A.Answers.answers c.args.parent c.args.creation.now c.args.core.now c.add_created.new.self _ c.in_ok-answer.answer c.in_ok-add_created.ensures.ok (omega (arith, many))
    (c.in_ok-answer.ensures ∙ ap (λ rs. answer_of g.A.Answers.answers rs (TypeOf (length c.records-last.result.now + 1))) c.records.ensures.records)

pub returns-clause-same : goal.returns-clause-same
returns-clause-same g c =
    created_cut c.args.parent c.args.creation.now None c.args.core.now c.add_created.new.self c.cut_records.new.self _ c.in_ok-add_created.ensures.ok (ap length c.records-last.ensures.records) c.cut_records.ensures

pub returns-clause-grown : goal.returns-clause-grown
returns-clause-grown g c = growth_is c.args.core.now c.cut_records.new.self (returns-clause-same g c)
