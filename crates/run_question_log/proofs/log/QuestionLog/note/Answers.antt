use Rattle.run_question_log.proofs.Keys.{kept, added, keys_with}
use Rattle.run_question_log.proofs.log.QuestionLog.note.Goals as goal

pub returns-then-contains-clause-ok : goal.returns-then-contains-clause-ok
returns-then-contains-clause-ok c =
    kept c.args.event c.args.question c.self.inside.asked c.args.self.now c.self.inside.about_modules.keys c.requires c.self.view_is c.self.invariant c.if-contains.ensures

pub invariant_of-self-in-Ok : goal.invariant_of-self-in-Ok
invariant_of-self-in-Ok c =
    keys_with c.args.event c.args.question c.in_ok-key.key c.self.inside.asked c.push.new.self c.self.inside.about_modules.keys c.insert.new.self.keys
    c.requires c.in_ok-key.ensures c.self.invariant c.if-contains.ensures c.in_ok-push.ensures.ok c.in-Ok.ensures.updates.0

pub returns-in-Ok-clause-ok : goal.returns-in-Ok-clause-ok
returns-in-Ok-clause-ok c =
    added c.args.event c.args.question c.self.inside.asked c.args.self.now c.push.new.self c.self.inside.about_modules.keys
    c.requires c.self.view_is c.self.invariant c.if-contains.ensures c.in_ok-push.ensures.ok
