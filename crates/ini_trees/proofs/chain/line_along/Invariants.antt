use Rattle.std.proofs.Common.{◌≡◌, length, take}
use Rattle.ini_trees.specs.Counts.{HoldsZeros}
use Rattle.ini_trees.proofs.NumberedLaws.{AreFound}
use Rattle.ini_trees.proofs.chain.line_along.Given as goal

abbrev pub invariant-loop-place : goal.invariant-loop-place
invariant-loop-place l = record {
  size : length l.lines ≡ length l.names;
  counted : length l.waiting ≡ length l.names;
  zeros : HoldsZeros l.waiting;
  found : AreFound l.text l.names l.last.items l.root l.place l.lines (take l.place l.order);
}
