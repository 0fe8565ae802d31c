use Rattle.std.proofs.Common.{◌≡◌}
use Rattle.run_semantics.specs.Run.{standing}
use Rattle.run_semantics.specs.Upcoming.{target_of}
use Rattle.kernel.specs.Kernels.{world_in}
use Rattle.kernel.proofs.Rising.{parts_left}
use Rattle.kernel.proofs.Targets.{id_among}
use Rattle.kernel.proofs.kernel.Kernel.target.Given as goal

abbrev pub invariant-loop-index : goal.invariant-loop-index
invariant-loop-index g l =
    let world = world_in (λ b. (g.dyn-1.0.entry b.vtable).1) l.self in
    id_among world.records l.path (parts_left l.index (standing world.modules)) ≡ target_of l.path world
