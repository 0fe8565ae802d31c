use Rattle.std.proofs.Common.{◌≡◌, ◌-◌, ◌≤◌, drop, length}
use Rattle.std.specs.List.{All}
use Rattle.run_semantics.specs.Perform.{for_each}
use Rattle.run_semantics.specs.Run.{set_up}
use Rattle.kernel_actions.specs.Positions.{IsGrownFrom}
use Rattle.kernel_sending.proofs.building.+set_up.Given as goal

abbrev pub decreases-set_up : goal.decreases-set_up
decreases-set_up g l = l.depth

-- those that are left lead where all lead
abbrev pub invariant-loop-inner_id : goal.invariant-loop-inner_id
invariant-loop-inner_id g l = record {
  flow : for_each (set_up (l.depth - 1) g.A.Answers.answers) (drop l.inner_id-index l.inner_id-items) l.core ≡ set_up l.depth g.A.Answers.answers l.id l.fn.core;
  grown : IsGrownFrom l.fn.core l.core;
  there : All (λ n. n ≤ length l.core.records) l.inner_id-items;
}
