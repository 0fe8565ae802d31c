use Rattle.std.proofs.Common.{◌≡◌, drop}
use Rattle.model_settings.specs.Created.{creation_at}
use Rattle.model_settings.proofs.created.creation_at.Given as goal

abbrev pub invariant-loop-creation : goal.invariant-loop-creation
invariant-loop-creation l = creation_at (drop l.creation-index l.created) l.site ≡ creation_at l.created l.site
