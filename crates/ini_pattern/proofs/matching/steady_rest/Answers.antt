use Rattle.std.specs.Str.{chars}
use Rattle.ini_pattern.proofs.SteadyLemmas.{all_fixed, fixed_front, begin_none, star_requires, told_fixed, told_star}
use Rattle.ini_pattern.proofs.matching.steady_rest.Goals as goal

pub fixed_rest-requires : goal.fixed_rest-requires
fixed_rest-requires c = all_fixed c.args.pieces.now c.requires c.in_default.ensures

pub returns-in_default : goal.returns-in_default
returns-in_default c = told_fixed (λ rest. chars rest.now) _ _ _ c.fixed_rest.result (all_fixed c.args.pieces.now c.requires c.in_default.ensures) c.fixed_rest.ensures

pub fixed_rest-requires-2 : goal.fixed_rest-requires-2
fixed_rest-requires-2 c = fixed_front c.args.pieces.now c.in-Some.first.now c.in-Some.behind.now c.requires c.in-Some.ensures.1 c.in-Some.ensures.0

pub returns-in_default-fixed_rest : goal.returns-in_default-fixed_rest
returns-in_default-fixed_rest c = begin_none _ _ _ _ _ c.in-Some.ensures.1 c.in_default-fixed_rest.ensures

pub star_rest-requires : goal.star_rest-requires
star_rest-requires c = star_requires _ _ _ c.requires c.in-Some.ensures.1

pub returns : goal.returns
returns c =
    told_star (λ rest. chars rest.now) _ _ _ _ _ _ c.star_rest.result (fixed_front c.args.pieces.now c.in-Some.first.now c.in-Some.behind.now c.requires c.in-Some.ensures.1 c.in-Some.ensures.0) c.in-Some.ensures.1 c.in-Some-fixed_rest.ensures.0 c.star_rest.ensures
