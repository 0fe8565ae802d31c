use Rattle.std.proofs.Common.{subst}
use Rattle.module_tree.specs.Boxes.{AreRising}
use Rattle.module_tree.proofs.Seats.{rise}
use Rattle.module_tree.proofs.Tree.last.Goals as goal

pub returns-clause-rising : goal.returns-clause-rising
returns-clause-rising g c = subst (λ h. AreRising 0 h.room h.seats) c.self.view_is (rise c.self.inside.slots.items)
