use Rattle.std.proofs.Common.{List, ℕ, ◌+◌, ap, length, subst, sym, ◌≡◌, ◌∙◌}
use Rattle.child_table.specs.Children.{AreChildren}
use Rattle.child_table.proofs.Listed.{pushed}
use Rattle.child_table.proofs.ChildTable.push.Goals as goal

pub invariant_of-self-in-Ok : goal.invariant_of-self-in-Ok
invariant_of-self-in-Ok c =
    let ps = c.self.inside.parents.items in
    let many : c.len.result + 1 ≡ length ps + 1 = ap (λ n. n + 1) (c.len.ensures ∙ ap length (sym c.self.view_is)) in
    subst (λ (xs : List ℕ). AreChildren xs c.add_child.new.lists.items) (sym c.in-Ok.ensures.items)
    (pushed ps c.args.parent (c.len.result + 1) c.self.inside.lists.items c.reach.new.lists.items c.add_child.new.lists.items many c.self.invariant c.reach.ensures.same c.in_ok-add_child.ensures.ok)
