use Rattle.std.proofs.Common.{◌≡◌, ◌++◌, ◌∷◌, ◌-◌, [], not, drop}
use Rattle.std.specs.List.{filter}
use Rattle.run_semantics.specs.Subtree.{among, each_of, inner_first_to}
use Rattle.kernel_actions.specs.Walks.{living_below}
use Rattle.kernel_actions.proofs.walks.+push_inner_first.Given as goal

abbrev pub decreases-push_inner_first : goal.decreases-push_inner_first
decreases-push_inner_first l = l.depth

-- those that are there, and those that are left
abbrev pub invariant-loop-inner : goal.invariant-loop-inner
invariant-loop-inner l = l.ids ++ (each_of (inner_first_to (l.depth - 1) (living_below l.children l.dead)) (filter (λ n. not (among n l.dead)) (drop l.inner-index l.inner-items)) ++ l.id ∷ []) ≡ l.fn.ids ++ inner_first_to l.depth (living_below l.children l.dead) l.id
