use Rattle.std.proofs.Common.{◌*◌, ◌<◌, ◌^◌, arith}
use Rattle.ned_tokens.proofs.RunLemmas.{value_stops}
use Rattle.ned_tokens.proofs.digits.value_of.Goals as goal

pub returns-in_default-checked_mul : goal.returns-in_default-checked_mul
returns-in_default-checked_mul c =
    let over : c.digits.value * c.base_of-base.result < 2 ^ 64 → ⊥ = c.in_default-checked_mul.ensures in
    value_stops c.args.class c.base_of-base.result c.digits.value c.digits.rest.now c.args.digits.now c.base_of-base.ensures c.in-len1-up.len_at_least (omega (arith, over)) c.digits.invariant.value

pub returns-in_default-checked_add : goal.returns-in_default-checked_add
returns-in_default-checked_add c =
    let product = c.in-Some.ensures in
    let over = c.in_default-checked_add.ensures in
    value_stops c.args.class c.base_of-base.result c.digits.value c.digits.rest.now c.args.digits.now c.base_of-base.ensures c.in-len1-up.len_at_least (omega (arith, product.1, over, c.digit_of.ensures.value)) c.digits.invariant.value

pub returns-then-next-ge-LIMIT : goal.returns-then-next-ge-LIMIT
returns-then-next-ge-LIMIT c =
    let product = c.in-Some.ensures in
    let sum = c.in-Some-checked_add.ensures in
    value_stops c.args.class c.base_of-base.result c.digits.value c.digits.rest.now c.args.digits.now c.base_of-base.ensures c.in-len1-up.len_at_least (omega (arith, product.1, sum.1, c.digit_of.ensures.value, c.if-next-ge-LIMIT.true)) c.digits.invariant.value
