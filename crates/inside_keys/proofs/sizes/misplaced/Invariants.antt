use Rattle.std.proofs.Common.{◌≡◌, drop}
use Rattle.inside_keys.specs.Given as given
use Rattle.inside_keys.proofs.sizes.misplaced.Given as goal

abbrev pub invariant-loop-line : goal.invariant-loop-line
invariant-loop-line l = given.misplaced l.gates (drop l.line-index l.lines) ≡ given.misplaced l.gates l.lines
