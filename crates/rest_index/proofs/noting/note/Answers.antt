use Rattle.std.proofs.Common.{sym, ap, subst, ◌∙◌, ◌<◌, List, length, arith}
use Rattle.std.specs.Prelude.{slice_set}
use Rattle.rest_index.specs.declared.row.Row.{Row}
use Rattle.rest_index.specs.Noting.{AllKnow, HaveMoreUsers, IsNotedAt}
use Rattle.rest_index.specs.Rests.{asked_of, users_in}
use Rattle.rest_index.proofs.Notes.{knew, know_now, noted, row_there}
use Rattle.rest_index.proofs.noting.note.Goals as goal
use Rattle.rest_index.proofs.noting.note.Goals.{then-not-asks_for+in_ok-add_users, else-not-asks_for}

pub returns-clause-noted : goal.returns-clause-noted
returns-clause-noted c =
    let rows = c.args.rows.now.items in
    let more = c.if-not-asks_for.rows.items in
    let place = c.args.place in
    let both : HaveMoreUsers place c.args.asked rows more × AllKnow more place c.args.asked =
    elim c.if-not-asks_for.branch [
      | then-not-asks_for+in_ok-add_users w ↦ know_now rows more w.add_users.new.rows.items place c.args.asked w.as_slice-then-not-asks_for.result.now (ap (λ v. v.items) w.rows-is)
          w.as_slice-then-not-asks_for.ensures w.in_ok-add_users.ensures.grown w.in_ok-add_users.ensures.known
      | else-not-asks_for w ↦ knew rows more place c.args.asked (ap (λ v. v.items) w.rows-is) c.requires.indexed
          (ap (λ (l : List Row). asked_of l place) (sym c.as_slice.ensures.value) ∙ c.asks_for.ensures.same w.if-not-asks_for.false ∙ c.as_slice-2.ensures)
    ] in
    let within : place < length more = let a = c.requires.there in let b = c.requires.as_long in let d = both.0.as_long in omega (arith, a, b, d) in
    let there = row_there more place c.index_mut.result.now within c.index_mut.ensures.value in
    subst (IsNotedAt place c.args.asked rows (slice_set more place (record { asked = c.args.asked; users = c.index_mut.result.now.users }))) (sym c.set.ensures)
    (noted rows more c.args.live.now place (record { asked = c.args.asked; users = c.index_mut.result.now.users }) (let a = c.requires.there in let b = c.requires.as_long in omega (arith, a, b))
    c.requires.indexed c.requires.closed both.0 both.1 c.requires.known (sym (ap users_in there)))
