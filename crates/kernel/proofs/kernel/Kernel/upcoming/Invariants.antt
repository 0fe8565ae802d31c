use Rattle.std.proofs.Common.{◌≡◌, ◌+◌, ℕ}
use Rattle.run_semantics.specs.World.{World}
use Rattle.run_semantics.specs.Upcoming.{upcoming, upcoming_in}
use Rattle.kernel_actions.specs.Upcoming.{looked}
use Rattle.kernel.specs.Kernels.{world_in}
use Rattle.kernel.proofs.kernel.Kernel.upcoming.Given as goal

-- what comes next is what comes of the looks that are left
abbrev pub invariant-loop : goal.invariant-loop
invariant-loop g l =
    let world : World = world_in (λ b. (g.dyn-1.0.entry b.vtable).1) l.self in
    (left : ℕ) × (left + l.counter ≡ l.looks) × (upcoming_in left g.A.Answers.answers world.pending (looked world l.look) ≡ upcoming g.A.Answers.answers world)
