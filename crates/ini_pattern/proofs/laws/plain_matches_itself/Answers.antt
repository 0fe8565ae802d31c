use Rattle.ini_pattern.proofs.LawLemmas.{plain_law}
use Rattle.ini_pattern.proofs.laws.plain_matches_itself.Goals as goal

pub returns : goal.returns
returns c = plain_law
