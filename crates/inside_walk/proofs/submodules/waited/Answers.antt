use Rattle.std.proofs.Common.{sym, subst}
use Rattle.inside_walk.specs.declared.task.Wait.{Wait}
use Rattle.inside_walk.specs.Tasks.{Leads, continued, waited}
use Rattle.inside_walk.proofs.submodules.waited.Goals as goal

pub returns-in-Type-clause-leads : goal.returns-in-Type-clause-leads
returns-in-Type-clause-leads c =
    subst (λ (w : Wait). Leads c.args.ground.now c.known.result c.known.new.tasks (waited c.args.ground.now w c.args.value.now c.args.state (continued c.args.ground.now c.args.tasks.now))) (sym c.in-Type.is)
    c.known.ensures.leads
