use Rattle.std.proofs.Common.{◌≡◌, ◌≤◌, ◌<◌, ◌+◌, ◌-◌, ◌∷◌, ◌++◌, ◌∙◌, [], inl, inr, List, ℕ, ap, arith, length, subst, sym}
use Rattle.path_table.specs.declared.ModuleAt.{ModuleAt}
use Rattle.kernel_actions.specs.Modules.{AreLookedUp}
use Rattle.kernel_actions.proofs.Listed.{length_paths, looked_up_dead, looked_up_none}
use Rattle.kernel_actions.proofs.module_list.ModuleList.bury.Goals as goal

pub bury-requires : goal.bury-requires
bury-requires c =
    let many : length c.self.inside.paths ≡ length c.self.inside.records = ap length c.self.invariant.paths_are ∙ length_paths c.self.inside.records c.self.inside.dead in
    omega (arith, many, c.len.ensures, c.if-id-gt0.true, c.if-id-len.true)

pub invariant_of-self-then-id-len : goal.invariant_of-self-then-id-len
invariant_of-self-then-id-len c =
    let own : (c.args.id - 1) + 1 ≡ c.args.id = omega (arith, c.if-id-gt0.true) in
    subst (λ (ds : List ℕ). AreLookedUp c.self.inside.records ds c.bury.new.self c.self.inside.children) (sym c.in_ok-push.ensures.ok)
    (subst (λ (ps : List ModuleAt). AreLookedUp c.self.inside.records (c.self.inside.dead ++ c.args.id ∷ []) ps c.self.inside.children) (sym c.bury.ensures)
    (looked_up_dead c.self.inside.records c.self.inside.dead c.self.inside.paths c.self.inside.children (c.args.id - 1) c.args.id own c.self.invariant))

pub invariant_of-self-else-id-len : goal.invariant_of-self-else-id-len
invariant_of-self-else-id-len c =
    let beyond : 1 + length c.self.inside.records ≤ c.args.id = omega (arith, c.len.ensures, c.if-id-len.false) in
    subst (λ (ds : List ℕ). AreLookedUp c.self.inside.records ds c.self.inside.paths c.self.inside.children) (sym c.in_ok-push.ensures.ok)
    (looked_up_none c.self.inside.records c.self.inside.dead c.self.inside.paths c.self.inside.children c.args.id (inr beyond) c.self.invariant)

pub invariant_of-self-else-id-gt0 : goal.invariant_of-self-else-id-gt0
invariant_of-self-else-id-gt0 c =
    let before : c.args.id < 1 = omega (arith, c.if-id-gt0.false) in
    subst (λ (ds : List ℕ). AreLookedUp c.self.inside.records ds c.self.inside.paths c.self.inside.children) (sym c.in_ok-push.ensures.ok)
    (looked_up_none c.self.inside.records c.self.inside.dead c.self.inside.paths c.self.inside.children c.args.id (inl before) c.self.invariant)
