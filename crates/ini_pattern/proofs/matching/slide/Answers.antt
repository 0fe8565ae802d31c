use Rattle.std.proofs.Common.{rules}
use Rattle.ini_pattern.proofs.SteadyLemmas.{slid_stuck, slid_on}
use Rattle.ini_pattern.proofs.matching.slide.Goals as goal

pub returns-then-c-eq46 : goal.returns-then-c-eq46
returns-then-c-eq46 c =
    slid_stuck _ _ _ _ _ _ c.loop-rest.invariant.1 c.in-Some-first_char.ensures c.if-c-eq46.true c.in_default.ensures

pub loop-rest-preserved : goal.loop-rest-preserved
loop-rest-preserved c =
    (search rules, slid_on _ _ _ _ _ _ c.loop-rest.invariant.1 c.in-Some-first_char.ensures c.if-c-eq46.false c.in_default.ensures)
