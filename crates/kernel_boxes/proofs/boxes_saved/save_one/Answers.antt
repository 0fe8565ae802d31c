use Rattle.std.proofs.Common.{sym, ap, ◌∙◌, option_map}
use Rattle.std.specs.Option.{option_copied}
use Rattle.kernel_boxes.specs.Saved.{instance_at}
use Rattle.kernel_boxes.proofs.Seating.{means_in}
use Rattle.kernel_boxes.proofs.boxes_saved.save_one.Goals as goal

pub returns-in_ok-instance_of-in-Some : goal.returns-in_ok-instance_of-in-Some
returns-in_ok-instance_of-in-Some g c =
    c.in_ok-instance_of-in-Some.ensures
    ∙ sym (ap (instance_at c.args.id) (means_in (λ v. (g.dyn-1.0.entry v.vtable).1.meaning v.value) c.args.id c.args.boxes.now.seats ∙ ap (option_map (λ v. (g.dyn-1.0.entry v.vtable).1.meaning v.value)) (sym c.get.ensures ∙ ap option_copied c.in-Some.is)))

pub returns-in-None : goal.returns-in-None
returns-in-None g c =
    sym (ap (instance_at c.args.id) (means_in (λ v. (g.dyn-1.0.entry v.vtable).1.meaning v.value) c.args.id c.args.boxes.now.seats ∙ ap (option_map (λ v. (g.dyn-1.0.entry v.vtable).1.meaning v.value)) (sym c.get.ensures ∙ ap option_copied c.in-None.is)))
