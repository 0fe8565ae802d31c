use Rattle.std.proofs.Common.{ap, ◌∙◌, map}
use Rattle.kernel_boxes.specs.Seats.{seat_of}
use Rattle.kernel_boxes.proofs.Seating.{none_below, on_ok, supplied}
use Rattle.checkpoint_runs.proofs.running.Runner.supply.Goals as goal

pub place-requires : goal.place-requires
place-requires g c = none_below (λ v. (g.dyn-1.0.entry v.vtable).1.meaning v.value) c.args.id c.args.self.now.waiting.seats c.requires.above

pub returns-clause-ok : goal.returns-clause-ok
returns-clause-ok g c = on_ok c.place.result c.place.ensures.ok (λ e.
    ap (map (seat_of (λ b. (g.dyn-1.0.entry b.vtable).1))) e ∙ supplied (λ v. (g.dyn-1.0.entry v.vtable).1.meaning v.value) c.args.id c.args.held c.args.self.now.waiting.seats c.requires.above)
