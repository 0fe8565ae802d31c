use Rattle.inside_walk.proofs.OfSubmodules.{gate_asks}
use Rattle.inside_walk.proofs.submodules.gate.Goals as goal

pub returns-then-gate-clause-leads : goal.returns-then-gate-clause-leads
returns-then-gate-clause-leads c =
    gate_asks c.args._ground.now c.push.new.self c.args.tasks.now c.args.holder c.args.sort c.args.gate.now c.args.rest c.args.state c.in_ok-key.key c.in_ok-size_of.field-0
    c.in_ok-push.ensures.ok c.in_ok-key.ensures c.in_ok-size_of.ensures c.if-gate.true
