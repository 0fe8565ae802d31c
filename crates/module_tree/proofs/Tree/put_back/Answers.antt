use Rattle.std.proofs.Common.{ap, ◌∙◌, arith}
use Rattle.module_tree.specs.Boxes.{box_of}
use Rattle.module_tree.proofs.Seats.{put, counted_in, room_for_one}
use Rattle.module_tree.proofs.Tree.put_back.Goals as goal

pub returns : goal.returns
returns g c = put c.args.id c.args.value c.self.inside.slots.items c.args.self.now c.self.view_is c.requires.there c.requires.free

pub overflow_add-self : goal.overflow_add-self
overflow_add-self g c = omega (arith, room_for_one c.self.inside.count c.self.inside.slots.items c.self.invariant)

pub invariant_of-self : goal.invariant_of-self
invariant_of-self g c =
    let long = ap (λ h. h.room) c.self.view_is in
    counted_in c.args.id c.self.inside.count c.args.value c.self.inside.slots.items (omega (arith, long, c.requires.there)) (ap (λ h. box_of c.args.id h.seats) c.self.view_is ∙ c.requires.free) c.self.invariant
