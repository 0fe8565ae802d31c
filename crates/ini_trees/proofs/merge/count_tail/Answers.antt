use Rattle.std.proofs.Common.{ℕ, ◌-◌, arith, drop, take, length, length-take, length-drop}
use Rattle.ini_trees.proofs.MergeLaws.{held-le}
use Rattle.ini_trees.proofs.merge.count_tail.Goals as goal

pub returns-in-len1-up-clause-few : goal.returns-in-len1-up-clause-few
returns-in-len1-up-clause-few c = λ k h.
    let few = held-le k (take (length c.args.numbers.now - 1) (drop 1 c.args.numbers.now)) in
    let counted = c.count.ensures k h in
    omega (arith, length-take {A = ℕ}, length-drop {A = ℕ})
