use Rattle.std.proofs.Common.{refl}
use Rattle.inside_run.proofs.laws.worked_places.Goals as goal

pub returns : goal.returns
returns c = record {
  alone = refl;
  no_vector = refl;
  value_of_none = refl;
  gate_of_none = refl;
  undeclared = refl;
}
