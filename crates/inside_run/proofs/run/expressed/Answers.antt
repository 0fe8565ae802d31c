use Rattle.inside_run.proofs.Loads.{key_load, stopped_by, stops_at, value_leads, value_within}
use Rattle.inside_run.proofs.run.expressed.Goals as goal

pub returns-in-Ok-Value-clause-comes : goal.returns-in-Ok-Value-clause-comes
returns-in-Ok-Value-clause-comes c =
    let g = c.args.ground.now in
    c.led.ensures.comes g c.wanted.new.tasks _
    (value_leads g c.args.tasks.now c.wanted.new.tasks c.args.evaluation c.reach.new.evaluation c.args.turn c.args.want c.args.state c.in-Ok-Value.field-0 c.in-Ok-Value.value c.wanted.result
    c.in-Ok-Value.field-0-is c.in-Ok-Value.ensures.reaches c.wanted.ensures.leads)

pub returns-in-Ok-Value-clause-within : goal.returns-in-Ok-Value-clause-within
returns-in-Ok-Value-clause-within c =
    let g = c.args.ground.now in
    c.led.ensures.within g c.wanted.new.tasks _
    (value_within g c.args.tasks.now c.wanted.new.tasks c.args.evaluation c.args.turn c.args.want c.args.state c.wanted.result c.wanted.ensures.spends)

pub returns-in-Ok-Key-clause-comes : goal.returns-in-Ok-Key-clause-comes
returns-in-Ok-Key-clause-comes c =
    let g = c.args.ground.now in
    c.stopped.ensures.comes g c.args.tasks.now _
    (stops_at g c.args.tasks.now c.args.evaluation c.reach.new.evaluation c.args.turn c.args.want c.args.state c.in-Ok-Key.field-0 c.in-Ok-Key.key c.in-Ok-Key.field-0-is c.in-Ok-Key.ensures.reaches)

pub returns-in-Ok-Key-clause-within : goal.returns-in-Ok-Key-clause-within
returns-in-Ok-Key-clause-within c =
    let g = c.args.ground.now in
    c.stopped.ensures.within g c.args.tasks.now _
    (key_load g c.args.tasks.now c.args.evaluation c.reach.new.evaluation c.args.turn c.args.want c.args.state c.in-Ok-Key.field-0 c.in-Ok-Key.key c.in-Ok-Key.field-0-is c.in-Ok-Key.ensures.less)

pub returns-clause-comes : goal.returns-clause-comes
returns-clause-comes c =
    stopped_by c.args.ground.now c.args.tasks.now c.args.tasks.now c.args.evaluation c.reach.new.evaluation c.args.turn c.args.want c.args.state c.in-Err.stop c.in-Err.ensures.reaches
