use Rattle.std.proofs.Common.{sym, ap, subst}
use Rattle.param_engine.specs.Tables.{IsAt, key_of_entry}
use Rattle.param_engine.proofs.Entries.{lookup_key_same}
use Rattle.param_engine.proofs.table.Table.find.Goals as goal

pub returns-clause-place : goal.returns-clause-place
returns-clause-place g c =
    let eq = g.K.PartialEq.eq in
    let m = c.self.inside.finished in
    let h = c.in_ok-place.ensures in
    subst (λ es. IsAt eq es c.args.key.now c.in_ok-place.place) (ap (λ t. t.entries) c.self.view_is)
    (_, ap key_of_entry h.entry, lookup_key_same eq m.entries c.args.key.now _ (sym h.key))
