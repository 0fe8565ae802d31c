use Rattle.std.proofs.Common.{ap, arith, length}
use Rattle.kernel_sending.proofs.Creations.{created_told}
use Rattle.kernel_sending.proofs.creating.create_as_answered.Goals as goal

pub returns-clause-world : goal.returns-clause-world
returns-clause-world g c =
    let many = ap length c.records.ensures.records in
    created_told c.args.parent c.args.creation.now c.in_ok-class.class c.in_ok-answer.answer c.args.core.now c.ask_class.new.core c.add_created.new.self c.ask.new.self _ c.in_ok-answer.ensures.same c.in_ok-add_created.ensures.ok c.in_ok-class.ensures c.in_ok-ask.ensures.noted
    (omega (arith, many))
