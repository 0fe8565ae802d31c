use Rattle.std.proofs.Common.{refl}
use Rattle.inside_keys.proofs.laws.worked.Goals as goal

pub returns : goal.returns
returns c = record {
  alone = refl;
  ring_sizes = refl;
  ring_links = refl;
  one_more = refl;
  itself = refl;
  back = refl;
  half_taken = refl;
  no_submodule = refl;
  no_single = refl;
  no_vector = refl;
  no_direction = refl;
  single = refl;
  taken = refl;
  both_ends = refl;
}
