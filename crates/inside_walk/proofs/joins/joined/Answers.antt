use Rattle.std.proofs.Common.{arith}
use Rattle.inside_walk.specs.Tasks.{continued, scope_of}
use Rattle.inside_walk.proofs.Carrying.{onwards_lead}
use Rattle.inside_walk.proofs.Spent.{spends_more}
use Rattle.inside_walk.proofs.joins.joined.Goals as goal

pub returns-in-None-clause-spends : goal.returns-in-None-clause-spends
returns-in-None-clause-spends c = spends_more c.args.ground.now 1 7 0 0 c.args.tasks.now c.args.state.turns c.link.result c.link.new._tasks (omega arith) (omega arith) c.link.ensures.spends

pub returns-in-Some-clause-leads : goal.returns-in-Some-clause-leads
returns-in-Some-clause-leads c =
    onwards_lead c.args.ground.now c.ask.result c.ask.new.tasks c.args.left c.args.right (scope_of c.args.tasks.now) c.args.state (continued c.args.ground.now c.args.tasks.now)
    c.args.connection.now c.source_of-source.result c.channel_of.result c.in-Some.field-0 c.channel_of.ensures c.in-Some.is c.source_of-source.ensures c.ask.ensures.leads

pub returns-in-Some-clause-spends : goal.returns-in-Some-clause-spends
returns-in-Some-clause-spends c = spends_more c.args.ground.now 6 7 0 0 c.args.tasks.now c.args.state.turns c.ask.result c.ask.new.tasks (omega arith) (omega arith) c.ask.ensures.spends
