use Rattle.std.proofs.Common.{◌≡◌, ◌++◌, sym, ap, ◌∙◌, append-nil}
use Rattle.run_question_log.specs.Entries.{asked_in_any, noted_in}
use Rattle.run_question_log.proofs.Noted.{noted_push, noted_parted}
use Rattle.run_question_log.proofs.asked_list.pop_question.Goals.{in-Some, in_default}
use Rattle.run_question_log.proofs.asked_list.pop_question.Goals as goal

pub returns : goal.returns
returns c =
    let left : noted_in c.match-before.entries.items ≡ noted_in c.pop.new.self.items ++ asked_in_any c.parted-before.result.0 = elim c.match-before.branch [
      | in-Some w ↦ ap (λ v. noted_in v.items) w.entries-is ∙ ap noted_in w.put_back.ensures ∙ noted_push c.pop.new.self.items w.in-Some.before
          ∙ ap (λ b. noted_in c.pop.new.self.items ++ asked_in_any b) (sym w.in-Some.is)
      | in_default w ↦ ap (λ v. noted_in v.items) w.entries-is ∙ sym (append-nil (noted_in c.pop.new.self.items))
          ∙ ap (λ b. noted_in c.pop.new.self.items ++ asked_in_any b) (sym w.in_default.is)
    ] in
    noted_parted c.parted-before.result.1 c.in_ok-entry.entry c.parted-before.result.0 c.args.entries.now.items c.pop.new.self.items c.match-before.entries.items
    c.in_ok-entry.ensures.items c.parted-before.ensures left
