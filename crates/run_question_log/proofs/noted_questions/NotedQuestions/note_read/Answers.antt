use Rattle.std.proofs.Common.{◌≡◌, true, List, sym, ap, ◌∙◌, subst}
use Rattle.model_questions.specs.declared.answer.AskedQuestion.{AskedQuestion}
use Rattle.model_questions.specs.declared.answer.Question.{Question}
use Rattle.run_semantics.specs.Perform.{question_of}
use Rattle.run_semantics.specs.World.{is_asked, noted}
use Rattle.run_question_log.specs.Known.{reads_in, AreKnown}
use Rattle.run_question_log.proofs.Known.{asked_now, known_noted}
use Rattle.run_question_log.proofs.noted_questions.NotedQuestions.note_read.Goals as goal

pub invariant_of-self-2 : goal.invariant_of-self-2
invariant_of-self-2 c =
    let is = c.in_ok-note.ensures.ok ∙ ap (λ (q : Question). noted c.args.event q c.self.inside.log) c.in_ok-question_of.ensures.question in
    c.add.ensures c.note.new.self
    (subst (λ (qs : List AskedQuestion). AreKnown qs (reads_in c.self.inside.known)) (sym is) (known_noted c.args.event (question_of c.args.id c.args.read.now) c.self.inside.log (reads_in c.self.inside.known) c.self.invariant))
    (ap (λ (qs : List AskedQuestion). is_asked (question_of c.args.id c.args.read.now) qs) is ∙ asked_now c.args.event c.args.id c.args.read.now c.self.inside.log)
