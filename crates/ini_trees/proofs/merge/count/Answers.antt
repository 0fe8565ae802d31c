use Rattle.std.proofs.Common.{◌<◌, get_or, length, arith, refl}
use Rattle.ini_trees.proofs.MergeLaws.{held_here, held-le}
use Rattle.ini_trees.proofs.merge.count.Goals as goal

pub overflow_add-waiting : goal.overflow_add-waiting
overflow_add-waiting c =
    let within : get_or c.args.numbers.now c.loop-number.number-index 0 < length c.args.waiting.now = c.requires.below c.loop-number.number-index 0 c.loop-number-test.true in
    let here = held_here (get_or c.args.numbers.now c.loop-number.number-index 0) c.args.numbers.now c.loop-number.number-index 0 c.loop-number-test.true refl in
    let few = held-le (get_or c.args.numbers.now c.loop-number.number-index 0) c.args.numbers.now in
    let room = c.requires.room (get_or c.args.numbers.now c.loop-number.number-index 0) within in
    let counted = c.loop-number.invariant (get_or c.args.numbers.now c.loop-number.number-index 0) (omega arith) in
    omega arith
