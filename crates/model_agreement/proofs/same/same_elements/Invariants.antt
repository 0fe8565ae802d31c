use Rattle.std.proofs.Common.{◌≡◌, drop}
use Rattle.model_agreement.specs.Same.{same_inside}
use Rattle.model_agreement.proofs.same.same_elements.Given as goal

abbrev pub invariant-loop-index : goal.invariant-loop-index
invariant-loop-index l = same_inside (drop l.index l.one) (drop l.index l.other) ≡ same_inside l.one l.other
