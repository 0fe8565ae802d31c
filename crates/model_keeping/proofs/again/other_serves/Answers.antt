use Rattle.std.proofs.Common.{refl, sym}
use Rattle.inside_run.specs.Same.{same_is}
use Rattle.param_keeping.specs.Stores.{store_of}
use Rattle.model_keeping.proofs.Standing.{other_serves}
use Rattle.model_keeping.proofs.Storing.{shaped_alike, unknown_alike}
use Rattle.model_keeping.proofs.again.other_serves.Goals as goal

pub find-requires-clause-shaped : goal.find-requires-clause-shaped
find-requires-clause-shaped c = shaped_alike (store_of c.args.store.now.kept c.args.closed.now) c.requires

pub find-requires-clause-exact : goal.find-requires-clause-exact
find-requires-clause-exact c = same_is

pub returns-in-None : goal.returns-in-None
returns-in-None c = λ h.
    let o = c.has_others.ensures h in
    other_serves c.args.store.now.kept c.args.store.now.live c.args.closed.now c.args.since.now.entries c.args.site.now c.args.place c.in-Some.key.now (sym c.in-Some.ensures)
    (unknown_alike (store_of c.args.store.now.kept c.args.closed.now) c.in-Some.key.now (c.in-None.ensures.none refl)) o.0 o.1.0 o.1.1
