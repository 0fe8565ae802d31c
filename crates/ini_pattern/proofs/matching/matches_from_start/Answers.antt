use Rattle.std.proofs.lemmas.Bool.{false≢true}
use Rattle.ini_pattern.proofs.EndLemmas.{whole_step, whole_none}
use Rattle.ini_pattern.proofs.matching.matches_from_start.Goals as goal

pub returns-in_default-longest_rest : goal.returns-in_default-longest_rest
returns-in_default-longest_rest c = (
  λ wrong. absurd (false≢true wrong),
  λ w. absurd (whole_none _ _ _ _ c.in-Some.ensures.1 c.in_default-longest_rest.ensures w),
)

pub returns : goal.returns
returns c =
    let step = whole_step _ _ _ _ _ c.in-Some.ensures.1 c.in-Some-longest_rest.ensures in
    (λ t. step.1 (c.matches_end.ensures.0 t), λ w. c.matches_end.ensures.1 (step.0 w))
