use Rattle.std.proofs.Common.{◌≡◌, drop}
use Rattle.ned_inheritance.specs.Places.{first_told, unfit_body}
use Rattle.ned_inheritance.proofs.bodies.body_clash.Given as goal

abbrev pub invariant-loop-number : goal.invariant-loop-number
invariant-loop-number l = first_told (unfit_body l.named) l.number (drop l.number l.submodules) ≡ first_told (unfit_body l.named) 0 l.submodules
