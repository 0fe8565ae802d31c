use Rattle.std.proofs.Common.{rules}
use Rattle.ini_pattern.proofs.SteadyLemmas.{past_next}
use Rattle.ini_pattern.proofs.matching.past_dot.Goals as goal

pub loop-c-preserved : goal.loop-c-preserved
loop-c-preserved c = (search rules, past_next _ _ _ _ c.loop-c.invariant.1 c.in-Some.ensures c.if-c-eq46.false)
