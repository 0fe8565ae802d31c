use Rattle.run_question_log.specs.Known.{reads_in}
use Rattle.run_question_log.proofs.Known.{known_after_time}
use Rattle.run_question_log.proofs.noted_questions.NotedQuestions.note_time.Goals as goal

pub invariant_of-self : goal.invariant_of-self
invariant_of-self c =
    known_after_time c.args.event c.args.question c.self.inside.log c.note_time.new.self (reads_in c.self.inside.known) c.note_time.result c.note_time.ensures.ok c.note_time.ensures.err c.self.invariant
