use Rattle.std.proofs.Common.{◌≡◌, ◌++◌, drop}
use Rattle.std.specs.List.{filter}
use Rattle.run_semantics.specs.Subtree.{among}
use Rattle.kernel_actions.proofs.core_part.those_in.Given as goal

-- those that were found, and those that are left
abbrev pub invariant-loop-id : goal.invariant-loop-id
invariant-loop-id l = l.found ++ filter (λ n. among n l.list) (drop l.id-index l.ids) ≡ filter (λ n. among n l.list) l.ids
