use Rattle.std.proofs.Common.{◌≡◌, ℕ, ◌<◌, false}
use Rattle.inside_wiring.specs.Wired.{is_open}
use Rattle.inside_wiring.proofs.wiring.Wiring.next_index.Given as goal

-- nothing is open below
abbrev pub invariant-loop-index : goal.invariant-loop-index
invariant-loop-index l = (i : ℕ) → i < l.index → is_open l.self.links l.other l.role (l.vector, i) ≡ false
