use Rattle.std.proofs.Common.{◌≡◌, drop, max}
use Rattle.run_semantics.specs.Run.{most_stages}
use Rattle.kernel.specs.Kernels.{world_in}
use Rattle.kernel.proofs.kernel.Kernel.most_stages.Given as goal

abbrev pub invariant-loop-id : goal.invariant-loop-id
invariant-loop-id g l =
    let world = world_in (λ b. (g.dyn-1.0.entry b.vtable).1) l.self in
    max l.most (most_stages g.C.Catalogue.behaviour world.modules (drop l.id-index l.ids)) ≡ most_stages g.C.Catalogue.behaviour world.modules l.ids
