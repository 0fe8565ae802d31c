use Rattle.std.proofs.Common.{◌≡◌, ◌∙◌, List, ℕ, refl, sym, subst, drop}
use Rattle.model_keeping.specs.Held.{AllServeStill, known_now}
use Rattle.param_keeping.specs.Stores.{store_of}
use Rattle.model_keeping.proofs.Standing.{at_place, none_serve, one_more_serves, past_end}
use Rattle.model_keeping.proofs.again.all_serve.Goals as goal

pub loop-place-preserved : goal.loop-place-preserved
loop-place-preserved c = λ rest.
    let now = known_now c.args.store.now.kept c.args.closed.now c.args.since.now.entries in
    let before = store_of c.args.store.now.kept c.args.store.now.live in
    c.loop-place.invariant (at_place c.args.site.now before now c.args.places.now c.loop-place.place-index c.loop-place-test.true (c.serves.ensures c.if-not-serves.false) rest)

pub returns : goal.returns
returns c = λ _.
    let now = known_now c.args.store.now.kept c.args.closed.now c.args.since.now.entries in
    let before = store_of c.args.store.now.kept c.args.store.now.live in
    c.loop-place.invariant (past_end c.args.site.now before now c.args.places.now c.loop-place.place-index c.loop-place-test.false)
