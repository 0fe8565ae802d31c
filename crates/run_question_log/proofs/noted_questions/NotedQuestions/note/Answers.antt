use Rattle.run_question_log.specs.Known.{reads_in}
use Rattle.run_question_log.proofs.Known.{known_after_note}
use Rattle.run_question_log.proofs.noted_questions.NotedQuestions.note.Goals as goal

pub invariant_of-self : goal.invariant_of-self
invariant_of-self c =
    known_after_note c.args.event c.args.question c.self.inside.log c.note.new.self (reads_in c.self.inside.known) c.note.result c.note.ensures.ok c.note.ensures.err c.self.invariant
