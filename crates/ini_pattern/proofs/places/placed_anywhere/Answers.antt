use Rattle.std.specs.Str.{chars}
use Rattle.ini_pattern.proofs.PlaceLemmas.{told_anywhere}
use Rattle.ini_pattern.proofs.places.placed_anywhere.Goals as goal

pub returns : goal.returns
returns c = told_anywhere (λ rest. chars rest.now) _ _ _ c.placed_rest.result c.placed_rest.ensures
