use Rattle.std.proofs.Common.{◌∷◌, [], ◌++◌, ap, ◌∙◌, arith}
use Rattle.run_question_log.specs.Entries.{noted_in}
use Rattle.run_question_log.proofs.Noted.{twice_at_most, noted_one_more, counted_more}
use Rattle.run_question_log.proofs.asked_list.AskedList.push.Goals as goal

-- there are fewer than 2 ^ 63 entries, so one question more can be counted
pub overflow_add-self : goal.overflow_add-self
overflow_add-self c =
    let entries = c.self.inside.entries in
    omega (arith, twice_at_most entries.items, c.self.invariant, entries.ok.0, entries.ok.1, entries.small)

pub invariant_of-self-2 : goal.invariant_of-self-2
invariant_of-self-2 c =
    counted_more (record { event = c.args.event; question = c.args.question }) c.self.inside.count (noted_in c.self.inside.entries.items) (noted_in c.push.new.self.items) c.self.invariant
    (noted_one_more _ c.in_ok-noted.field-0 c.self.inside.entries.items c.push.new.self.items c.in_ok-push.ensures.items c.in_ok-noted.ensures)

pub returns-clause-ok : goal.returns-clause-ok
returns-clause-ok c =
    noted_one_more _ c.in_ok-noted.field-0 c.self.inside.entries.items c.push.new.self.items c.in_ok-push.ensures.items c.in_ok-noted.ensures
    ∙ ap (λ qs. qs ++ record { event = c.args.event; question = c.args.question } ∷ []) (c.self.view_is ∙ c.if-join.ensures)
