use Rattle.std.proofs.Common.{◌≡◌, ◌<◌, ℕ, set, get_or, length, sym, subst}
use Rattle.std.proofs.lemmas.List.{length-set}
use Rattle.ini_trees.specs.Counts.{AreBelow}
use Rattle.ini_trees.proofs.PartLaws.{counts_only, marks_more, once_more}
use Rattle.ini_trees.proofs.parts.count_once.Goals as goal

pub returns-then-waiting-number-ne0-clause-counts : goal.returns-then-waiting-number-ne0-clause-counts
returns-then-waiting-number-ne0-clause-counts c = counts_only c.args.row.now c.loop-number.waiting c.loop-number.number-index c.loop-number.invariant.marks

pub loop-number-preserved : goal.loop-number-preserved
loop-number-preserved c =
    let row = c.args.row.now in
    let i = c.loop-number.number-index in
    let waiting = c.loop-number.waiting in
    let below : get_or row i 0 < length waiting = c.loop-number.invariant.below i 0 c.loop-number-test.true in
    record {
      below = subst (λ (n : ℕ). AreBelow n row) (sym (length-set waiting (get_or row i 0) 1)) c.loop-number.invariant.below;
      marks = marks_more row waiting i c.loop-number-test.true below c.loop-number.invariant.marks;
      once = once_more row waiting i c.loop-number-test.true below c.loop-number.invariant.marks c.if-waiting-number-ne0.false c.loop-number.invariant.once;
    }
