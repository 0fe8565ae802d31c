use Rattle.std.proofs.Common.{subst, sym, List, Bool}
use Rattle.inside_run.specs.Same.{equal}
use Rattle.param_keeping.specs.Stores.{IsShaped, store_of}
use Rattle.model_keeping.proofs.Storing.{shaped_alike}
use Rattle.model_keeping.proofs.leaving.given_up.Goals as goal

pub give_up-requires-clause-shaped : goal.give_up-requires-clause-shaped
give_up-requires-clause-shaped c =
    subst (λ (l : List Bool). IsShaped equal (store_of c.args.kept.now l)) (sym c.in_ok-flags.ensures.live)
    (shaped_alike (store_of c.args.kept.now c.args.live.now) c.requires.shaped)
