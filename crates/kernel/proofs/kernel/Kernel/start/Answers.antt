use Rattle.std.proofs.Common.{◌≡◌, sym, ap, ◌∙◌, map, subst}
use Rattle.run_semantics.specs.Perform.{On}
use Rattle.kernel.specs.Setups.{ready}
use Rattle.kernel_boxes.specs.Saved.{seats_held}
use Rattle.kernel_boxes.specs.Seats.{seat_of, AreOfKinds}
use Rattle.kernel.specs.Kernels.{boxes_in, world_in}
use Rattle.kernel.specs.Seats.{needs, world_of}
use Rattle.kernel.proofs.Behind.{needs_rise}
use Rattle.kernel.proofs.Waiting.{fresh_kinds, fresh_ready, no_seats}
use Rattle.kernel.proofs.kernel.Kernel.start.Goals as goal

pub initialize_all-requires-clause-ready : goal.initialize_all-requires-clause-ready
initialize_all-requires-clause-ready g c =
    let b = g.C.Catalogue.behaviour in
    let m = g.A.Answers.answers in
    subst (λ t. On (world_of c.args.self.now.core (map (seat_of (λ b. (g.dyn-1.0.entry b.vtable).1)) t.seats)) ≡ ready b m) (sym c.swap.ensures.x_after)
    (fresh_ready b m c.args.self.now.core (boxes_in (λ b. (g.dyn-1.0.entry b.vtable).1) c.args.self.now) (seats_held (λ b. (g.dyn-1.0.entry b.vtable).1) c.args.waiting.now) _ c.requires.none (needs_rise (world_in (λ b. (g.dyn-1.0.entry b.vtable).1) c.args.self.now)) c.requires.prepared c.requires.fresh)

pub initialize_all-requires-clause-kinds : goal.initialize_all-requires-clause-kinds
initialize_all-requires-clause-kinds g c =
    subst (λ t. AreOfKinds g.C.Catalogue.behaviour (map (seat_of (λ b. (g.dyn-1.0.entry b.vtable).1)) t.seats)) (sym c.swap.ensures.x_after)
    (fresh_kinds g.C.Catalogue.behaviour (needs (world_in (λ b. (g.dyn-1.0.entry b.vtable).1) c.args.self.now)) (seats_held (λ b. (g.dyn-1.0.entry b.vtable).1) c.args.waiting.now) c.requires.fresh)

pub returns-clause-none : goal.returns-clause-none
returns-clause-none g c =
    ap (seats_held (λ b. (g.dyn-1.0.entry b.vtable).1)) c.swap.ensures.y_after ∙ no_seats (boxes_in (λ b. (g.dyn-1.0.entry b.vtable).1) c.args.self.now) c.requires.none
