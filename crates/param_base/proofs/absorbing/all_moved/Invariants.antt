use Rattle.std.proofs.Common.{◌≡◌, map, take}
use Rattle.param_base.specs.Absorbing.{moved_to}
use Rattle.param_base.proofs.absorbing.all_moved.Given as goal

abbrev pub invariant-loop-place : goal.invariant-loop-place
invariant-loop-place l = l.moved ≡ map (moved_to l.places) (take l.place-index l.own)
