use Rattle.ini_pattern.proofs.LawLemmas.{before_dot_law}
use Rattle.ini_pattern.proofs.laws.matches_before_dot.Goals as goal

pub returns : goal.returns
returns c = before_dot_law
