use Rattle.std.proofs.Common.{◌+◌, Option, arith, ap, sym, subst, ◌∙◌}
use Rattle.ned_trees.specs.declared.connections.End.{End}
use Rattle.ned_trees.specs.declared.connections.GateIndex.{GateIndex}
use Rattle.inside_walk.specs.Tasks.{Leads, continued, end_at, place_begun, scope_of}
use Rattle.inside_walk.specs.Weights.{Spends, of_position, of_rest}
use Rattle.inside_walk.proofs.OfEnds.{less_with_position}
use Rattle.inside_walk.proofs.Spent.{spends_more}
use Rattle.inside_walk.proofs.ends.position.Goals as goal

pub returns-in-Some-clause-leads : goal.returns-in-Some-clause-leads
returns-in-Some-clause-leads c =
    subst (λ (i : Option GateIndex). Leads c.args.ground.now c.placed.result c.placed.new.tasks (place_begun c.args.ground.now c.args.connection.now c.args.side i (scope_of c.args.tasks.now) c.args.state (continued c.args.ground.now c.args.tasks.now) c.args.gate))
    (sym (ap (λ (e : End). e.gate.index) (sym c.end_at-end.ensures) ∙ c.in-Some.is)) c.placed.ensures.leads

pub returns-in-Some-clause-spends : goal.returns-in-Some-clause-spends
returns-in-Some-clause-spends c =
    subst (λ (i : Option GateIndex). Spends c.args.ground.now (of_position i + of_rest c.args.connection.now c.args.side + 2) 0 c.args.tasks.now c.args.state.turns c.placed.result c.placed.new.tasks)
    (sym (ap (λ (e : End). e.gate.index) (sym c.end_at-end.ensures) ∙ c.in-Some.is)) c.placed.ensures.spends

pub returns-else-gate-clause-spends : goal.returns-else-gate-clause-spends
returns-else-gate-clause-spends c =
    spends_more c.args.ground.now _ _ 0 0 c.args.tasks.now c.args.state.turns c.single.result c.single.new.tasks
    (less_with_position (of_position (end_at c.args.side c.args.connection.now).gate.index) (of_rest c.args.connection.now c.args.side)) (omega arith) c.single.ensures.spends
