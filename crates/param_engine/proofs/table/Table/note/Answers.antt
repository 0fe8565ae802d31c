use Rattle.std.proofs.Common.{◌++◌, ◌∷◌, [], ◌∙◌, ap}
use Rattle.indexmap.proofs.CallerLemmas.{insert_entry-new}
use Rattle.param_engine.specs.Tables.{known}
use Rattle.param_engine.proofs.Entries.{lookup_none}
use Rattle.param_engine.proofs.table.Table.note.Goals as goal

pub returns-clause-ok : goal.returns-clause-ok
returns-clause-ok g c =
    let eq = g.K.PartialEq.eq in
    let view = ap (λ t. t.entries) c.self.view_is in
    let m = c.self.inside.finished in
    c.in_ok-insert.ensures.entries
    ∙ insert_entry-new eq m c.args.key (record { value = c.args.value; asked = c.args.asked })
    (lookup_none eq m.entries c.args.key (ap (λ es. known eq es c.args.key) view ∙ c.requires))
    ∙ ap (λ es. es ++ (c.args.key, record { value = c.args.value; asked = c.args.asked }) ∷ []) view
