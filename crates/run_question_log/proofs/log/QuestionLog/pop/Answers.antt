use Rattle.std.proofs.Common.{sym, ◌∙◌}
use Rattle.run_question_log.proofs.Keys.{fewer_keys, keys_stay}
use Rattle.run_question_log.proofs.log.QuestionLog.pop.Goals as goal

pub invariant_of-self-then-is_of_modules : goal.invariant_of-self-then-is_of_modules
invariant_of-self-then-is_of_modules c =
    fewer_keys c.in_ok-last.last c.self.inside.asked c.pop.new.self c.self.inside.about_modules.keys c.remove.new.self.keys
    (sym c.is_of_modules.ensures ∙ c.if-is_of_modules.true) c.self.invariant c.in_ok-last.ensures c.remove.ensures.updates.0

pub invariant_of-self-else-is_of_modules : goal.invariant_of-self-else-is_of_modules
invariant_of-self-else-is_of_modules c =
    keys_stay c.in_ok-last.last c.self.inside.asked c.pop.new.self c.self.inside.about_modules.keys
    (sym c.is_of_modules.ensures ∙ c.if-is_of_modules.false) c.self.invariant c.in_ok-last.ensures
