use Rattle.std.proofs.Common.{◌++◌, ◌∷◌, [], Ok, option_to_list, sym, ◌∙◌, ap, subst, arith}
use Rattle.param_engine.specs.Turns.{came_to}
use Rattle.param_following.specs.Laws.{IsExact}
use Rattle.param_engine.specs.Working.{ruled, IsAnswered, IsGoing}
use Rattle.param_engine.proofs.Entries.{some_from_copied, lent_is, value_last, on_err}
use Rattle.param_engine.proofs.Going.{ended, closed, closed_table}
use Rattle.param_engine.proofs.engine.ascend.Goals as goal

pub returns-in_default-clause-steps : goal.returns-in_default-clause-steps
returns-in_default-clause-steps g c = λ start asked going.
    let asker = c.args.asker.now in
    let rules = ruled g.A.Key.PartialEq.eq (g.A.Asker.asking asker) (g.A.Asker.circle asker) in
    let exact : IsExact rules = record { same = g.met.A.Asker.exact; self = g.met.A.Key.Eq.laws.refl } in
    let es = c.args.table.now.entries in
    let was = c.args.going.now in
    let key = c.unwrap-key.result in
    let ks = c.pop.new.self.keys in
    let h = c.in_ok-place.ensures in
    subst (λ b. IsAnswered rules start asked c.note.new.self.entries b (Ok c.in_ok-place.place)) (sym h.begun)
    (ended rules (g.A.Asker.resumed asker)
    exact start asked es c.args.table.now.begun was.keys.keys was.waiting was.current.asked
    (omega (arith, c.len-len.ensures.len, c.len-len.ensures.small)) c.args.value key ks c.note.new.self.entries c.in_ok-place.place
    (c.pop.ensures.keys ∙ ap (λ o. ks ++ option_to_list o) c.unwrap-key.ensures) c.in_default.ensures.0
    (h.ok ∙ ap (λ a. es ++ (key, record { value = c.args.value; asked = a }) ∷ []) c.replace-asked.ensures.value) h.place going)

pub unwrap-value-requires : goal.unwrap-value-requires
unwrap-value-requires g c =
    let h = c.in_ok-place-2.ensures in
    some_from_copied c.value.result c.args.value (c.value.ensures
    ∙ value_last c.note-2.new.self.entries c.args.table.now.entries (c.unwrap-key.result, record { value = c.args.value; asked = c.replace-asked-2.result.asked }) c.in_ok-place-2.place h.ok h.place)

pub returns-in_err-turn-clause-err : goal.returns-in_err-turn-clause-err
returns-in_err-turn-clause-err g c =
    let asker = c.args.asker.now in
    let rules = ruled g.A.Key.PartialEq.eq (g.A.Asker.asking asker) (g.A.Asker.circle asker) in
    let exact : IsExact rules = record { same = g.met.A.Asker.exact; self = g.met.A.Key.Eq.laws.refl } in
    let es = c.args.table.now.entries in
    let was = c.args.going.now in
    let key = c.unwrap-key.result in
    let ks = c.pop.new.self.keys in
    let h = c.in_ok-place-2.ensures in
    on_err c.from_residual-in_err-turn.result _ (λ start asked going.
    closed_table rules (g.A.Asker.resumed asker)
    exact start asked es c.args.table.now.begun was.keys.keys was.waiting was.current.asked
    c.args.value key ks c.note-2.new.self.entries
    (c.pop.ensures.keys ∙ ap (λ o. ks ++ option_to_list o) c.unwrap-key.ensures)
    (h.ok ∙ ap (λ a. es ++ (key, record { value = c.args.value; asked = a.asked }) ∷ []) c.replace-asked-2.ensures.value) going)

pub returns-clause-steps : goal.returns-clause-steps
returns-clause-steps g c = λ start asked going.
    let asker = c.args.asker.now in
    let rules = ruled g.A.Key.PartialEq.eq (g.A.Asker.asking asker) (g.A.Asker.circle asker) in
    let exact : IsExact rules = record { same = g.met.A.Asker.exact; self = g.met.A.Key.Eq.laws.refl } in
    let resumed = g.A.Asker.resumed asker in
    let es = c.args.table.now.entries in
    let was = c.args.going.now in
    let key = c.unwrap-key.result in
    let ks = c.pop.new.self.keys in
    let h = c.in_ok-place-2.ensures in
    let below = c.in-Some.below in
    let there = value_last c.note-2.new.self.entries es (key, record { value = c.args.value; asked = c.replace-asked-2.result.asked }) c.in_ok-place-2.place h.ok h.place in
    subst (λ b. IsGoing rules resumed start asked c.note-2.new.self.entries b ks c.pop-2.new.self c.resume.new.frame.asked (came_to (resumed c.resume.new.frame.evaluation) c.in_ok-turn.turn)) (sym h.begun)
    (closed rules resumed
    exact start asked es c.args.table.now.begun was.keys.keys was.waiting was.current.asked
    c.args.value key ks c.pop-2.new.self below c.note-2.new.self.entries c.in_ok-place-2.place _ _
    (c.pop.ensures.keys ∙ ap (λ o. ks ++ option_to_list o) c.unwrap-key.ensures) c.in-Some.ensures
    (h.ok ∙ ap (λ a. es ++ (key, record { value = c.args.value; asked = a.asked }) ∷ []) c.replace-asked-2.ensures.value) h.place
    (c.in_ok-turn.ensures.asked ∙ ap (λ f. f.asked ++ c.in_ok-place-2.place ∷ []) c.replace-asked-2.ensures.after)
    (c.in_ok-turn.ensures.turn ∙ ap (λ f. resumed f.evaluation c.unwrap-value.result.now) c.replace-asked-2.ensures.after
    ∙ ap (resumed below.evaluation) (lent_is c.value.result c.unwrap-value.result c.args.value c.unwrap-value.ensures (c.value.ensures ∙ there))) going)
