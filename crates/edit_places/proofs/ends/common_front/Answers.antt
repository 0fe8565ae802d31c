use Rattle.std.proofs.Common.{arith, refl}
use Rattle.edit_places.proofs.Common.{front_more}
use Rattle.edit_places.proofs.ends.common_front.Goals as goal

pub entries-preserved : goal.entries-preserved
entries-preserved c = (
  omega (arith, c.entries-test.true, c.len.ensures),
  omega (arith, c.if-front-len.true, c.len-in-entries.ensures),
  front_more c.args.one.now c.args.other.now c.entries.front c.at.result.now c.at-in-entries.result.now
      c.entries.invariant.2 c.at.ensures c.at-in-entries.ensures (c.if-not-are_same.ensures refl),
)
