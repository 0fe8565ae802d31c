use Rattle.std.proofs.Common.{ap, sym, ◌∙◌, arith}
use Rattle.std.proofs.lemmas.Bool.Decides.{nat_tests}
use Rattle.model_answers.specs.Lines.{created_in}
use Rattle.model_answers.proofs.Lines.{counted_up, line_none}
use Rattle.model_answers.proofs.placed.+created_up.Goals as goal

pub returns-in-Some-clause-value : goal.returns-in-Some-clause-value
returns-in-Some-clause-value t c =
    c.counted.ensures.value
    ∙ counted_up c.args.depth c.args.records.now c.args.id c.in-Some.record.now (grind (arith, nat_tests)) (sym c.in-Some.ensures) c.created_up.result c.created_up.ensures.value

pub returns-in-None-clause-value : goal.returns-in-None-clause-value
returns-in-None-clause-value t c = sym (ap created_in (line_none c.args.depth c.args.records.now c.args.id (sym c.in-None.ensures)))
