use Rattle.std.proofs.Common.{◌≡◌, ◌≢◌, ◌%◌, ◌==◌, false, pos, negsuc, sym, ◌∙◌, ap, arith, eq-eqb}
use Rattle.std.proofs.lemmas.Int.{ints}
use Rattle.std.specs.Int.{int_pow}
use Rattle.param_eval.specs.Wholes.{bounded}
use Rattle.param_eval.proofs.Powers.{zero_to, one_to, minus_to_even, minus_to_odd, great_to, not_small}
use Rattle.param_eval.proofs.wholes.great_power.Goals as goal

pub returns-then-base-eq0 : goal.returns-then-base-eq0
returns-then-base-eq0 c =
    let e : c.args.base ≡ pos 0 = omega (arith, ints) in
    sym (ap (λ b. bounded (int_pow b c.args.exponent)) e ∙ zero_to c.args.exponent c.requires)

pub returns-then-base-eq1 : goal.returns-then-base-eq1
returns-then-base-eq1 c =
    let e : c.args.base ≡ pos 1 = omega (arith, ints) in
    sym (ap (λ b. bounded (int_pow b c.args.exponent)) e ∙ one_to c.args.exponent)

pub returns-then-exponent-eq0 : goal.returns-then-exponent-eq0
returns-then-exponent-eq0 c =
    let e : c.args.base ≡ negsuc 0 = omega (arith, ints) in
    sym (ap (λ b. bounded (int_pow b c.args.exponent)) e ∙ minus_to_even c.args.exponent (eq-eqb (c.args.exponent % 2) 0 c.if-exponent-eq0.true))

pub returns-else-exponent-eq0 : goal.returns-else-exponent-eq0
returns-else-exponent-eq0 c =
    let e : c.args.base ≡ negsuc 0 = omega (arith, ints) in
    let odd : (c.args.exponent % 2 == 0) ≡ false = grind arith in
    sym (ap (λ b. bounded (int_pow b c.args.exponent)) e ∙ minus_to_odd c.args.exponent odd)

pub returns : goal.returns
returns c =
    let z : c.args.base ≢ pos 0 = λ e. omega (arith, ints) in
    let o : c.args.base ≢ pos 1 = λ e. omega (arith, ints) in
    let m : c.args.base ≢ negsuc 0 = λ e. omega (arith, ints) in
    sym (great_to c.args.base c.args.exponent c.requires (not_small c.args.base z o m))
