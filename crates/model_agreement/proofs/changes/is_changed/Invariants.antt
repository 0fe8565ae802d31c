use Rattle.std.proofs.Common.{◌≡◌, drop}
use Rattle.model_agreement.specs.Changes.{is_changed}
use Rattle.model_agreement.proofs.changes.is_changed.Given as goal

abbrev pub invariant-loop-parameter : goal.invariant-loop-parameter
invariant-loop-parameter l = is_changed (drop l.parameter-index l.changed) l.path l.name ≡ is_changed l.changed l.path l.name
