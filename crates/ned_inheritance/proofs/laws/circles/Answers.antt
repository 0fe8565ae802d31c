use Rattle.ned_inheritance.proofs.Circles.{circle_is_one, one_is_circle}
use Rattle.ned_inheritance.proofs.laws.circles.Goals as goal

pub returns : goal.returns
returns c = λ types. (circle_is_one types, one_is_circle types)
