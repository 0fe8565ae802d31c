use Rattle.std.proofs.Common.{◌≡◌, length, map, ◌∙◌, arith}
use Rattle.std.proofs.lemmas.List.{length-map}
use Rattle.run_semantics.specs.Run.{part_of}
use Rattle.kernel_boxes.specs.Seats.{instance_of, seat_of}
use Rattle.kernel.specs.Kernels.{boxes_in}
use Rattle.checkpoint_runs.specs.Kept.{waiting_in}
use Rattle.checkpoint_runs.specs.Running.{parts_in}
use Rattle.checkpoint_runs.proofs.running.Runner.held.Goals as goal

pub returns : goal.returns
returns g c =
    let seats = boxes_in (λ b. (g.dyn-1.0.entry b.vtable).1) c.args.self.now.kernel in
    let waiting = waiting_in (λ b. (g.dyn-1.0.entry b.vtable).1) c.args.self.now in
    let stand : length (parts_in seats) ≡ length seats = length-map (map instance_of seats) part_of ∙ length-map seats instance_of in
    let wait : length (parts_in waiting) ≡ length waiting = length-map (map instance_of waiting) part_of ∙ length-map waiting instance_of in
    let held : length waiting ≡ length c.args.self.now.waiting.seats = length-map c.args.self.now.waiting.seats (seat_of (λ b. (g.dyn-1.0.entry b.vtable).1)) in
    omega (arith, c.held.ensures.count, c.len.ensures, stand, wait, held)
