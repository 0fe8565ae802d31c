use Rattle.ini_pattern.proofs.LawLemmas.{star_law}
use Rattle.ini_pattern.proofs.laws.star_stops_at_dot.Goals as goal

pub returns : goal.returns
returns c = star_law
