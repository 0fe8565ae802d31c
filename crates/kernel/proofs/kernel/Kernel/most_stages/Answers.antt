use Rattle.std.proofs.Common.{arith}
use Rattle.kernel.specs.Kernels.{world_in}
use Rattle.kernel.proofs.Starting.{most_begins, most_step, most_ends}
use Rattle.kernel.proofs.kernel.Kernel.most_stages.Goals as goal

pub loop-id-init : goal.loop-id-init
loop-id-init g c = most_begins g.C.Catalogue.behaviour (world_in (λ b. (g.dyn-1.0.entry b.vtable).1) c.args.self.now).modules c.args.ids.now

pub loop-id-preserved : goal.loop-id-preserved
loop-id-preserved g c =
    most_step g.C.Catalogue.behaviour (world_in (λ b. (g.dyn-1.0.entry b.vtable).1) c.args.self.now).modules c.args.ids.now c.loop-id.id-index 0 c.loop-id.most c.stages_in.result c.greater-most.result _ (omega arith) c.stages_in.ensures c.greater-most.ensures c.loop-id.invariant

pub returns : goal.returns
returns g c = most_ends g.C.Catalogue.behaviour (world_in (λ b. (g.dyn-1.0.entry b.vtable).1) c.args.self.now).modules c.args.ids.now c.loop-id.id-index c.loop-id.most _ (omega arith) c.loop-id.invariant
