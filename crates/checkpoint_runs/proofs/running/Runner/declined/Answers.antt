use Rattle.std.proofs.Common.{◌≡◌, Some, sym, ap, ◌∙◌}
use Rattle.run_semantics.specs.declared.outcome.RunFault.TheVariants.{UnknownClass}
use Rattle.run_semantics.specs.declared.outcome.Outcome.TheVariants.{Fault}
use Rattle.run_semantics.specs.Run.{Over}
use Rattle.kernel.specs.Kernels.{world_in}
use Rattle.kernel.specs.Seats.{missing_of}
use Rattle.checkpoint_runs.specs.Kept.{waiting_in}
use Rattle.checkpoint_runs.specs.Running.{parts_in}
use Rattle.checkpoint_runs.proofs.Filling.{declined_boxes, declined_request}
use Rattle.checkpoint_runs.proofs.running.Runner.declined.Goals as goal

pub returns-clause-stands : goal.returns-clause-stands
returns-clause-stands g c =
    let b = g.C.Catalogue.behaviour in
    let m = g.M.ModelMarker.answers in
    let w = world_in (λ b. (g.dyn-1.0.entry b.vtable).1) c.args.self.now.kernel in
    let xs = waiting_in (λ b. (g.dyn-1.0.entry b.vtable).1) c.args.self.now in
    let d = c.requires.declined in
    let request : missing_of w (parts_in xs) ≡ Some c.unwrap-request.result = sym c.in_ok-missing.ensures ∙ c.unwrap-request.ensures in (
      ap (λ n. Over w (Fault n c.unwrap-request.result.path UnknownClass)) c.count.ensures ∙ declined_request b m w xs c.unwrap-request.result d request,
      d.filled.none,
      declined_boxes b m w xs d,
    )
