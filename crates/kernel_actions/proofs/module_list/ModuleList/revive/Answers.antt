use Rattle.std.proofs.Common.{◌≡◌, ◌≤◌, ◌<◌, ◌+◌, ◌-◌, ◌∙◌, inl, inr, List, ℕ, ap, arith, length, subst, sym, true, false}
use Rattle.path_table.specs.declared.ModuleAt.{ModuleAt}
use Rattle.kernel_actions.specs.Modules.{AreLookedUp}
use Rattle.kernel_actions.proofs.Listed.{length_paths, looked_up_alive, looked_up_gone, popped}
use Rattle.kernel_actions.proofs.module_list.ModuleList.revive.Goals as goal

pub revive-requires : goal.revive-requires
revive-requires c =
    let many : length c.self.inside.paths ≡ length c.self.inside.records = ap length c.self.invariant.paths_are ∙ length_paths c.self.inside.records c.self.inside.dead in
    omega (arith, many, c.len.ensures, c.if-id-gt0.true, c.if-id-len.true)

pub invariant_of-self-then-id-len : goal.invariant_of-self-then-id-len
invariant_of-self-then-id-len c =
    let id = c.unwrap-id.result in
    let own : (id - 1) + 1 ≡ id = omega (arith, c.if-id-gt0.true) in
    subst (λ (ps : List ModuleAt). AreLookedUp c.self.inside.records c.pop.new.self ps c.self.inside.children) (sym c.revive.ensures)
    (looked_up_alive c.self.inside.records c.pop.new.self c.self.inside.paths c.self.inside.children (id - 1) id own (sym c.has.ensures ∙ c.if-has.false)
    (subst (λ (ds : List ℕ). AreLookedUp c.self.inside.records ds c.self.inside.paths c.self.inside.children) (popped c.pop.result id c.self.inside.dead c.pop.new.self c.pop.ensures c.unwrap-id.ensures) c.self.invariant))

pub invariant_of-self-else-id-len : goal.invariant_of-self-else-id-len
invariant_of-self-else-id-len c =
    let id = c.unwrap-id.result in
    let beyond : 1 + length c.self.inside.records ≤ id = omega (arith, c.len.ensures, c.if-id-len.false) in
    looked_up_gone c.self.inside.records c.pop.new.self c.self.inside.paths c.self.inside.children id (inr beyond)
    (subst (λ (ds : List ℕ). AreLookedUp c.self.inside.records ds c.self.inside.paths c.self.inside.children) (popped c.pop.result id c.self.inside.dead c.pop.new.self c.pop.ensures c.unwrap-id.ensures) c.self.invariant)

pub invariant_of-self-else-id-gt0 : goal.invariant_of-self-else-id-gt0
invariant_of-self-else-id-gt0 c =
    let id = c.unwrap-id.result in
    let before : id < 1 = omega (arith, c.if-id-gt0.false) in
    looked_up_gone c.self.inside.records c.pop.new.self c.self.inside.paths c.self.inside.children id (inl before)
    (subst (λ (ds : List ℕ). AreLookedUp c.self.inside.records ds c.self.inside.paths c.self.inside.children) (popped c.pop.result id c.self.inside.dead c.pop.new.self c.pop.ensures c.unwrap-id.ensures) c.self.invariant)
