use Rattle.std.proofs.Common.{◌≡◌, ◌++◌, drop}
use Rattle.edit_places.proofs.places.append.Given as goal

abbrev pub invariant-loop-place : goal.invariant-loop-place
invariant-loop-place l = l.places ++ drop l.place-index l.more ≡ l.fn.places ++ l.more
