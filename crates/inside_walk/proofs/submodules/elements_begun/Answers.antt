use Rattle.std.proofs.Common.{ap, arith}
use Rattle.inside_keys.specs.declared.found.State.{State}
use Rattle.inside_walk.specs.declared.task.Task.TheVariants as task
use Rattle.inside_walk.specs.Weights.{of_element}
use Rattle.inside_walk.proofs.OfElements.{element_all}
use Rattle.inside_walk.proofs.Spent.{put}
use Rattle.inside_walk.proofs.submodules.elements_begun.Goals as goal

pub returns-clause-spends : goal.returns-clause-spends
returns-clause-spends c =
    put c.args.ground.now (task.Elements c.args.submodule c.args.size c.args.size) c.push.new.self c.args.tasks.now _ 0 c.args.state.turns _ c.in_ok-push.ensures.ok (omega arith) (omega arith)
    (element_all c.args.size (of_element c.args.ground.now) c.requires) (ap (λ (s : State). s.turns) c.in_ok-state.ensures)
