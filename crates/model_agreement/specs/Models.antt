-- Models whose values rest on the same.
use Rattle.std.specs.Prelude.{◌≡◌}
use Rattle.model_data.specs.declared.model.Model.{Model}
use Rattle.model_data.specs.Models.{network_of}
use Rattle.model_settings.specs.Standings.{setting_of}

-- ALL THAT THE VALUES of two models rest on is the same, and so is the network that is run.
pub record RestOnSame (m n : Model) : Type 0 where
  pub setting : setting_of m ≡ setting_of n
  pub network : network_of m ≡ network_of n
