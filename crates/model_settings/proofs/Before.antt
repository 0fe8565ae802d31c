-- Where no module was created while a model ran.
use Rattle.std.proofs.Common.{◌≡◌, [], refl}
use Rattle.model_data.specs.declared.model.Model.{Model}
use Rattle.model_settings.specs.Created.{rules_with}
use Rattle.model_settings.specs.Standings.{setting_of}

pub none_created : (m : Model) → rules_with m [] ≡ setting_of m
unfolding setting_of
none_created m = refl
