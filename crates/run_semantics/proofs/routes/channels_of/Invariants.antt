use Rattle.std.proofs.Common.{◌≡◌, ◌++◌, drop}
use Rattle.run_semantics.specs.Routes.{channels_of}
use Rattle.run_semantics.proofs.routes.channels_of.Given as goal

abbrev pub invariant-loop-hop : goal.invariant-loop-hop
invariant-loop-hop l = l.channels ++ channels_of (drop l.hop-index l.hops) ≡ channels_of l.hops
