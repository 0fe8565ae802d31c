use Rattle.std.proofs.Common.{arith}
use Rattle.inside_walk.specs.Tasks.{continued, scope_of}
use Rattle.inside_walk.proofs.Carrying.{both_lead}
use Rattle.inside_walk.proofs.Spent.{spends_more}
use Rattle.inside_walk.proofs.joins.back.Goals as goal

pub returns-in-Right-clause-spends : goal.returns-in-Right-clause-spends
returns-in-Right-clause-spends c = spends_more c.args.ground.now 1 4 0 0 c.args.tasks.now c.args.state.turns c.link.result c.link.new._tasks (omega arith) (omega arith) c.link.ensures.spends

pub returns-in-Left-clause-spends : goal.returns-in-Left-clause-spends
returns-in-Left-clause-spends c = spends_more c.args.ground.now 1 4 0 0 c.args.tasks.now c.args.state.turns c.link-in-Left.result c.link-in-Left.new._tasks (omega arith) (omega arith) c.link-in-Left.ensures.spends

pub returns-in-Both-clause-leads : goal.returns-in-Both-clause-leads
returns-in-Both-clause-leads c =
    both_lead c.args.ground.now c.ask.result c.ask.new.tasks c.args.left c.args.right (scope_of c.args.tasks.now) c.args.state (continued c.args.ground.now c.args.tasks.now)
    c.args.arrow c.args.onwards c.in-Both.is c.ask.ensures.leads

pub returns-in-Both-clause-spends : goal.returns-in-Both-clause-spends
returns-in-Both-clause-spends c = spends_more c.args.ground.now 3 4 0 0 c.args.tasks.now c.args.state.turns c.ask.result c.ask.new.tasks (omega arith) (omega arith) c.ask.ensures.spends
