use Rattle.std.proofs.Common.{sym, ap, ◌∙◌, option_map}
use Rattle.std.specs.Option.{option_copied}
use Rattle.kernel_boxes.specs.Saved.{seats_held}
use Rattle.kernel_boxes.proofs.Going.{held_is}
use Rattle.kernel_boxes.proofs.Seating.{means_in}
use Rattle.kernel_boxes.proofs.going_back.holds.Goals as goal

pub returns-in-Some : goal.returns-in-Some
returns-in-Some g c =
    sym (held_is c.args.id (seats_held (λ b. (g.dyn-1.0.entry b.vtable).1) c.args.boxes.now) _
    (means_in (λ v. (g.dyn-1.0.entry v.vtable).1.meaning v.value) c.args.id c.args.boxes.now.seats ∙ ap (option_map (λ v. (g.dyn-1.0.entry v.vtable).1.meaning v.value)) (sym c.get.ensures ∙ ap option_copied c.in-Some.is)))

pub returns-in-None : goal.returns-in-None
returns-in-None g c =
    sym (held_is c.args.id (seats_held (λ b. (g.dyn-1.0.entry b.vtable).1) c.args.boxes.now) _
    (means_in (λ v. (g.dyn-1.0.entry v.vtable).1.meaning v.value) c.args.id c.args.boxes.now.seats ∙ ap (option_map (λ v. (g.dyn-1.0.entry v.vtable).1.meaning v.value)) (sym c.get.ensures ∙ ap option_copied c.in-None.is)))
