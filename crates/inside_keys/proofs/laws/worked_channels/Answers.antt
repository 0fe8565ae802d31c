use Rattle.std.proofs.Common.{refl}
use Rattle.inside_keys.proofs.laws.worked_channels.Goals as goal

pub returns : goal.returns
returns c = record {
  ideals = refl;
  free = refl;
  all_free = refl;
  unnamed = refl;
}
