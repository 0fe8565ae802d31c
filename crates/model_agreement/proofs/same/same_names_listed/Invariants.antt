use Rattle.std.proofs.Common.{◌≡◌, drop}
use Rattle.model_agreement.specs.Same.{same_names}
use Rattle.model_agreement.proofs.same.same_names_listed.Given as goal

abbrev pub invariant-loop-index : goal.invariant-loop-index
invariant-loop-index l = same_names (drop l.index l.one) (drop l.index l.other) ≡ same_names l.one l.other
