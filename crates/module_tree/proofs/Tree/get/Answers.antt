use Rattle.std.proofs.Common.{◌∙◌, sym, ap, slice_get}
use Rattle.std.specs.Option.{option_copied}
use Rattle.module_tree.specs.Boxes.{box_of}
use Rattle.module_tree.proofs.Seats.{found, joined}
use Rattle.module_tree.proofs.Tree.get.Goals as goal

pub returns-in-Some : goal.returns-in-Some
returns-in-Some g c =
    c.as_ref.ensures.value ∙ (ap joined (sym (ap option_copied c.in-Some.is) ∙ c.slot_at.ensures ∙ ap (λ os. slice_get os c.args.id) c.as_slice.ensures.value)
    ∙ (sym (found c.args.id c.self.inside.slots.items) ∙ ap (λ h. box_of c.args.id h.seats) c.self.view_is))

pub returns-in-None : goal.returns-in-None
returns-in-None g c =
    ap joined (sym (ap option_copied c.in-None.is) ∙ c.slot_at.ensures ∙ ap (λ os. slice_get os c.args.id) c.as_slice.ensures.value)
    ∙ (sym (found c.args.id c.self.inside.slots.items) ∙ ap (λ h. box_of c.args.id h.seats) c.self.view_is)
