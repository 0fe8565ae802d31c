use Rattle.std.proofs.Common.{rules}
use Rattle.ini_pattern.proofs.SteadyLemmas.{starts_next, starts_none, starts_found}
use Rattle.ini_pattern.proofs.matching.steady_anywhere.Goals as goal

pub returns-in-Some : goal.returns-in-Some
returns-in-Some c = starts_found _ _ _ _ _ c.loop-rest.invariant.1 c.in-Some.ensures

pub returns-in-None : goal.returns-in-None
returns-in-None c = starts_none _ _ _ _ c.loop-rest.invariant.1 c.in_default.ensures c.in-None.ensures

pub loop-rest-preserved : goal.loop-rest-preserved
loop-rest-preserved c = (search rules, starts_next _ _ _ _ _ c.loop-rest.invariant.1 c.in_default.ensures c.in-Some-past_dot.ensures)
