use Rattle.std.proofs.Common.{List, ℕ, subst}
use Rattle.child_table.specs.Children.{AreChildren}
use Rattle.child_table.proofs.Listed.{popped, taken}
use Rattle.child_table.proofs.ChildTable.pop.Goals as goal

pub invariant_of-self : goal.invariant_of-self
invariant_of-self c =
    popped c.pop.new.self.items c.unwrap-parent.result c.self.inside.lists.items c.drop_child.new.lists.items
    (subst (λ (ps : List ℕ). AreChildren ps c.self.inside.lists.items) (taken c.pop.result c.unwrap-parent.result c.self.inside.parents.items c.pop.new.self.items c.pop.ensures.items c.unwrap-parent.ensures) c.self.invariant)
    c.drop_child.ensures
