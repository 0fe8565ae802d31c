use Rattle.ini_pattern.proofs.LawLemmas.{decided}
use Rattle.ini_pattern.proofs.laws.matching_is_decided.Goals as goal

pub returns : goal.returns
returns c = decided c.matches-matches.result c.matches-matches.ensures.relation
