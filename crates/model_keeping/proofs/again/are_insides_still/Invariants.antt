use Rattle.model_keeping.specs.Held.{AreValuesOf}
use Rattle.model_settings.specs.Standings.{setting_of}
use Rattle.param_keeping.specs.Stores.{store_of}
use Rattle.model_keeping.proofs.again.are_insides_still.Given as goal

abbrev pub invariant-loop-place : goal.invariant-loop-place
invariant-loop-place l = AreValuesOf (setting_of l.after) (store_of l.store.kept l.read)
