use Rattle.run_question_log.proofs.Keys.{keys_without}
use Rattle.run_question_log.proofs.log.QuestionLog.note_time.Goals as goal

pub invariant_of-self-2 : goal.invariant_of-self-2
invariant_of-self-2 c =
    keys_without c.args.event c.args.question c.self.inside.asked c.push.new.self c.self.inside.about_modules.keys c.requires c.self.invariant c.in_ok-push.ensures.ok
