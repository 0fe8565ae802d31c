use Rattle.std.proofs.Common.{ap, ◌∙◌, map}
use Rattle.kernel_boxes.specs.Seats.{seat_of}
use Rattle.kernel_boxes.proofs.Seating.{on_ok}
use Rattle.kernel.proofs.Supplying.{none_seated, seat_placed}
use Rattle.kernel.proofs.kernel.Kernel.supply.Goals as goal

pub place-requires : goal.place-requires
place-requires g c = none_seated (λ v. (g.dyn-1.0.entry v.vtable).1.meaning v.value) c.args.id c.args.self.now.boxes.seats c.requires.free

pub returns-clause-ok : goal.returns-clause-ok
returns-clause-ok g c = on_ok c.place.result c.place.ensures.ok (λ e.
    ap (map (seat_of (λ b. (g.dyn-1.0.entry b.vtable).1))) e ∙ seat_placed (λ v. (g.dyn-1.0.entry v.vtable).1.meaning v.value) c.args.id c.args.held c.args.self.now.boxes.seats)
