use Rattle.std.proofs.Common.{sym}
use Rattle.kernel.specs.Kernels.{world_in}
use Rattle.checkpoint_runs.specs.Kept.{waiting_in}
use Rattle.checkpoint_runs.proofs.Filling.{filled_ready}
use Rattle.checkpoint_runs.proofs.running.Runner.next_box.Goals as goal

pub returns-in-None-clause-stands : goal.returns-in-None-clause-stands
returns-in-None-clause-stands g c =
    filled_ready g.C.Catalogue.behaviour g.M.ModelMarker.answers (world_in (λ b. (g.dyn-1.0.entry b.vtable).1) c.args.self.now.kernel) (waiting_in (λ b. (g.dyn-1.0.entry b.vtable).1) c.args.self.now) c.requires.filled (rw c.in-None.is at (sym c.in_ok-request.ensures))
