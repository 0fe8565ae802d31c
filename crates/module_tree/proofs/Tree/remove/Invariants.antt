-- what is removed from here leaves what is left of all
use Rattle.std.proofs.Common.{◌≡◌, drop}
use Rattle.module_tree.specs.Boxes.{without_boxes, with_seats}
use Rattle.module_tree.proofs.Tree.remove.Given as goal

abbrev pub invariant-loop-id : goal.invariant-loop-id
invariant-loop-id g l = with_seats (without_boxes (drop l.id-index l.ids) l.self.seats) l.self ≡ with_seats (without_boxes l.ids l.fn.self.seats) l.fn.self
