use Rattle.std.proofs.Common.{◌≡◌, ◌≤◌, ◌^◌, length}
use Rattle.module_tree.specs.Boxes.{last_id, seats_from}
use Rattle.module_tree.proofs.last_at.Given as goal

abbrev pub invariant-loop-rest : goal.invariant-loop-rest
invariant-loop-rest g l = record {
  same : last_id (seats_from 0 l.rest) ≡ last_id (seats_from 0 l.slots);
  few : length l.rest ≤ 2 ^ 32;
}

abbrev pub decreases-loop-rest : goal.decreases-loop-rest
decreases-loop-rest g l = length l.rest
