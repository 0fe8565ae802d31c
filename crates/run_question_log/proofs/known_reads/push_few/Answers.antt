use Rattle.run_question_log.proofs.Known.{asked_pushed}
use Rattle.run_question_log.proofs.known_reads.push_few.Goals as goal

pub returns-in-Ok : goal.returns-in-Ok
returns-in-Ok c = λ asked id known so.
    asked_pushed asked id c.args.known.now c.push.new.self c.args.name.now c.in-Ok.copy c.push.result c.in-Ok.ensures c.push.ensures.ok c.push.ensures.err known so
