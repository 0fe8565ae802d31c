use Rattle.std.proofs.Common.{drop}
use Rattle.model_keeping.specs.Held.{AllServeStill, known_now}
use Rattle.param_keeping.specs.Stores.{store_of}
use Rattle.model_keeping.proofs.again.all_serve.Given as goal

-- where those serve that are left, all do
abbrev pub invariant-loop-place : goal.invariant-loop-place
invariant-loop-place l =
    AllServeStill l.site (store_of l.store.kept l.store.live) (known_now l.store.kept l.closed l.since.entries) (drop l.place-index l.places)
    → AllServeStill l.site (store_of l.store.kept l.store.live) (known_now l.store.kept l.closed l.since.entries) l.places
