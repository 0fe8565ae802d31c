use Rattle.std.proofs.Common.{◌≡◌, length}
use Rattle.param_engine.specs.Working.{ruled}
use Rattle.param_keeping.specs.Stores.{store_of}
use Rattle.param_base.specs.Absorbing.{counted_with, IsPutSoFar}
use Rattle.param_base.specs.Asking.{known_by}
use Rattle.param_base.proofs.absorbing.absorb.Given as goal

abbrev pub invariant-entries : goal.invariant-entries
invariant-entries g l = IsPutSoFar (ruled g.A.Key.PartialEq.eq (g.A.Asker.asking l._asker) (g.A.Asker.circle l._asker)) l.fn.kept l.fn.live l.fn.found.entries
    l.rest l.places (store_of l.kept l.live)
    × (counted_with (known_by g.A.Key.PartialEq.eq l.fn.kept l.fn.live) l.rest l.kept.evaluations
    ≡ counted_with (known_by g.A.Key.PartialEq.eq l.fn.kept l.fn.live) l.fn.found.entries l.fn.kept.evaluations)

abbrev pub decreases-entries : goal.decreases-entries
decreases-entries g l = length l.rest
