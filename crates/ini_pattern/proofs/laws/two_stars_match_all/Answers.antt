use Rattle.ini_pattern.proofs.LawLemmas.{two_stars_law}
use Rattle.ini_pattern.proofs.laws.two_stars_match_all.Goals as goal

pub returns : goal.returns
returns c = two_stars_law
