use Rattle.std.proofs.Common.{sym, ap, subst, ◌∙◌, ◌≡◌, ◌⊎◌, ◌++◌, ◌∷◌, [], List, ℕ}
use Rattle.rest_index.specs.declared.row.Row.{Row}
use Rattle.rest_index.specs.Rests.{asked_in, is_among, users_in, users_of}
use Rattle.rest_index.proofs.Notes.{pushed_known, pushed_more, row_grown, row_known, row_there}
use Rattle.rest_index.proofs.noting.add_user.Goals as goal

pub returns-clause-grown : goal.returns-clause-grown
returns-clause-grown c =
    let rows = c.args.rows.now.items in
    let is_row = row_there rows c.args.place c.index_mut.result.now c.requires.there c.index_mut.ensures.value in
    let unknown = sym (c.is_user.ensures ∙ ap (is_among c.args.user) c.users_of.ensures ∙ ap (λ (l : List Row). is_among c.args.user (users_of l c.args.place)) c.as_slice.ensures.value) ∙ c.if-is_user.false in
    row_grown rows c.args.place c.args.user (record { asked = c.index_mut.result.now.asked; users = c.push.new.self }) c.requires.there (sym (ap asked_in is_row)) unknown
    (subst (λ (l : List ℕ). (c.push.new.self ≡ l) ⊎ (c.push.new.self ≡ l ++ c.args.user ∷ [])) (sym (ap users_in is_row))
    (pushed_more c.push.result c.index_mut.result.now.users c.push.new.self c.args.user c.push.ensures.ok c.push.ensures.err))

pub returns-clause-known : goal.returns-clause-known
returns-clause-known c =
    let rows = c.args.rows.now.items in
    pushed_known c.push.result c.index_mut.result.now.users c.push.new.self c.args.user c.push.ensures.ok _
    (λ e. row_known rows c.args.place c.args.user (record { asked = c.index_mut.result.now.asked; users = c.push.new.self }) c.requires.there e)
