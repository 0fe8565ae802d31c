use Rattle.std.proofs.Common.{◌≡◌, drop}
use Rattle.model_agreement.specs.Changes.{is_changed_somewhere}
use Rattle.model_agreement.proofs.changes.is_changed_somewhere.Given as goal

abbrev pub invariant-loop-parameter : goal.invariant-loop-parameter
invariant-loop-parameter l = is_changed_somewhere (drop l.parameter-index l.changed) l.name ≡ is_changed_somewhere l.changed l.name
