use Rattle.std.proofs.Common.{rules}
use Rattle.std.specs.Str.{chars}
use Rattle.ini_pattern.proofs.SteadyLemmas.{all_fixed, fixed_front, star_begin, steady_next, steady_none, told_slide}
use Rattle.ini_pattern.proofs.matching.star_rest.Goals as goal

pub loop-front-init : goal.loop-front-init
loop-front-init c = (search rules, star_begin _ _ c.requires)

pub slide-requires : goal.slide-requires
slide-requires c = fixed_front c.loop-front.left.now c.in-Some.front.now c.in-Some.back.now c.loop-front.invariant.1.steady c.in-Some.ensures.1 c.in-Some.ensures.0

pub returns-in_default-slide : goal.returns-in_default-slide
returns-in_default-slide c = steady_none _ _ _ _ _ _ _ c.loop-front.invariant.1 c.in-Some.ensures.1 c.in_default-slide.ensures

pub loop-front-preserved : goal.loop-front-preserved
loop-front-preserved c =
    (search rules, steady_next _ _ _ _ _ _ _ c.loop-front.invariant.1 c.in-Some.ensures.1 c.in-Some.ensures.0 c.in-Some-slide.ensures)

pub slide-requires-2 : goal.slide-requires-2
slide-requires-2 c = all_fixed c.loop-front.left.now c.loop-front.invariant.1.steady c.in_default.ensures

pub returns : goal.returns
returns c = told_slide (λ rest. chars rest.now) _ _ _ _ _ c.slide-2.result c.loop-front.invariant.1 c.in_default.ensures c.slide-2.ensures
