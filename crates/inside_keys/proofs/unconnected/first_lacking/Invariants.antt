use Rattle.std.proofs.Common.{◌≡◌, ℕ, ◌<◌, false}
use Rattle.inside_keys.specs.Unconnected.{is_lacking}
use Rattle.inside_keys.proofs.unconnected.first_lacking.Given as goal

-- none before is lacking
abbrev pub invariant-loop-index : goal.invariant-loop-index
invariant-loop-index l = (i : ℕ) → i < l.index → is_lacking l.wiring.links l.role (l.vector, i) ≡ false
