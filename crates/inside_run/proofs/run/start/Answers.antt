use Rattle.std.proofs.Common.{◌∷◌, ap, subst, ◌∙◌}
use Rattle.inside_walk.specs.declared.task.Task.TheVariants as task
use Rattle.inside_walk.specs.Tasks.{Halts}
use Rattle.inside_run.proofs.Loads.{begun_is}
use Rattle.inside_run.proofs.run.start.Goals as goal

pub returns-clause-halts : goal.returns-clause-halts
returns-clause-halts c =
    let g = c.args.ground.now in
    subst (Halts g c.run.result c.run.new.tasks)
    (begun_is g c.push-3.new.self c.push-2.new.self c.push.new.self c.in_ok-site.site c.gates_of-gates.result c.as_slice-2.result c.as_slice.result c.in_ok-state.state c.args.number c.args.declared.now
    (c.in_ok-push.ensures.ok ∙ ap (λ l. task.Items c.as_slice.result ∷ l) c.requires.none) c.in_ok-push-2.ensures.ok c.in_ok-push-3.ensures.ok
    c.in_ok-state.ensures c.gates_of-gates.ensures.same c.as_slice-2.ensures c.as_slice.ensures c.in_ok-site.ensures c.requires.names)
    c.run.ensures.halts
