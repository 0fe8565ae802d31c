use Rattle.std.proofs.Common.{Some, sym, ap, ◌∙◌, option_map}
use Rattle.std.specs.Option.{option_copied}
use Rattle.kernel.specs.Seats.{stages_of}
use Rattle.kernel_boxes.proofs.Seating.{means_in}
use Rattle.kernel.proofs.kernel.Kernel.stages_at.Goals as goal

pub returns-in-Some : goal.returns-in-Some
returns-in-Some g c =
    ap Some c.stages_of.ensures
    ∙ sym (ap stages_of (means_in (λ v. (g.dyn-1.0.entry v.vtable).1.meaning v.value) c.args.id c.args.self.now.boxes.seats ∙ ap (option_map (λ v. (g.dyn-1.0.entry v.vtable).1.meaning v.value)) (sym c.get.ensures ∙ ap option_copied c.in-Some.is)))

pub returns-in-None : goal.returns-in-None
returns-in-None g c =
    sym (ap stages_of (means_in (λ v. (g.dyn-1.0.entry v.vtable).1.meaning v.value) c.args.id c.args.self.now.boxes.seats ∙ ap (option_map (λ v. (g.dyn-1.0.entry v.vtable).1.meaning v.value)) (sym c.get.ensures ∙ ap option_copied c.in-None.is)))
