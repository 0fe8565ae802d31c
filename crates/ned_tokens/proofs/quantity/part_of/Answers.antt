use Rattle.std.proofs.Common.{◌-◌, arith}
use Rattle.ned_tokens.proofs.QuantityLemmas.{part_stops, part_more, part_small}
use Rattle.ned_tokens.proofs.quantity.part_of.Goals as goal

pub returns-then-tenfold-ne0 : goal.returns-then-tenfold-ne0
returns-then-tenfold-ne0 c = part_stops c.args.factor c.args.digits.now c.loop-index.index (c.loop-index.index - 1) c.loop-index.part c.digit_of.result (omega arith) (omega arith) c.loop-index.invariant.part c.digit_of.ensures.value c.if-tenfold-ne0.true

pub loop-index-preserved : goal.loop-index-preserved
loop-index-preserved c = record {
  within = omega arith;
  part = part_more c.args.factor c.args.digits.now c.loop-index.index (c.loop-index.index - 1) c.loop-index.part c.digit_of.result (omega arith) (omega arith) c.loop-index.invariant.part c.digit_of.ensures.value c.if-tenfold-ne0.false;
  small = part_small c.args.factor c.loop-index.part c.digit_of.result c.loop-index.invariant.small (omega (arith, c.digit_of.ensures.small));
}
