use Rattle.std.specs.Str.{chars}
use Rattle.ini_pattern.proofs.PlaceLemmas.{told_whole}
use Rattle.ini_pattern.proofs.places.placed_start.Goals as goal

pub returns : goal.returns
returns c = told_whole (λ rest. chars rest.now) _ _ _ c.block_rest.result c.block_rest.ensures
