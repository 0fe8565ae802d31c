use Rattle.std.proofs.Common.{rules}
use Rattle.std.proofs.lemmas.Bool.{false≢true}
use Rattle.ini_pattern.proofs.EndLemmas.{end_step, end_none}
use Rattle.ini_pattern.proofs.matching.matches_end.Goals as goal

pub returns-in_default-longest_anywhere : goal.returns-in_default-longest_anywhere
returns-in_default-longest_anywhere c = (
  λ wrong. absurd (false≢true wrong),
  λ w. absurd (end_none _ _ _ _ c.in-Some.ensures.1 c.in_default-longest_anywhere.ensures (c.loop-front.invariant.1.0 w)),
)

pub loop-front-preserved : goal.loop-front-preserved
loop-front-preserved c =
    let step = end_step _ _ _ _ _ c.in-Some.ensures.1 c.in-Some-longest_anywhere.ensures in
    (search rules, (λ w. step.0 (c.loop-front.invariant.1.0 w), λ w. c.loop-front.invariant.1.1 (step.1 w)))
