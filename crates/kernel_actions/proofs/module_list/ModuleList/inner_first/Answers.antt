use Rattle.std.proofs.Common.{◌++◌, ◌∙◌, ap}
use Rattle.run_semantics.specs.Subtree.{inner_first_to}
use Rattle.kernel_actions.specs.Modules.{Modules, living}
use Rattle.run_semantics.specs.Subtree.{inner_first}
use Rattle.kernel_actions.specs.Walks.{living_below}
use Rattle.kernel_actions.proofs.Below.{inner_first_is}
use Rattle.kernel_actions.proofs.module_list.ModuleList.inner_first.Goals as goal

pub returns : goal.returns
returns c =
    c.in_ok-push_inner_first.ensures
    ∙ (ap (λ xs. xs ++ inner_first_to 33 (living_below c.self.inside.children c.self.inside.dead) c.args.id) c.new-found.ensures
    ∙ (inner_first_is c.self.inside.records c.self.inside.dead c.self.inside.children c.args.id c.self.invariant.around_are
    ∙ ap (λ (m : Modules). inner_first m.records (living m) c.args.id) c.self.view_is))
