use Rattle.std.proofs.Common.{ℕ, Result, Some, rules, ap, sym, subst, ◌∙◌}
use Rattle.std.proofs.lemmas.Int.{to_z-of_z}
use mir.Syntax.{w64}
use mir.Val.{of_z, to_z}
use Rattle.sim_values.specs.declared.value.Value.TheVariants as value
use Rattle.sim_values.specs.declared.model_fault.ModelFault.{ModelFault}
use Rattle.inside_wiring.specs.Ends.{part_named}
use Rattle.inside_keys.specs.Asked.{result_then}
use Rattle.inside_keys.specs.Inside.{evaluated}
use Rattle.inside_walk.proofs.Counts.{leads_from}
use Rattle.inside_walk.proofs.Spent.{spends_more}
use Rattle.inside_walk.specs.declared.task.Want.{Want}
use Rattle.inside_walk.specs.declared.task.Want.TheVariants as want
use Rattle.inside_walk.specs.Tasks.{Leads, continued, part_begun, scope_of, wanted}
use Rattle.inside_run.proofs.Steps.{last_within, last_costs, part_within, index_within, none_costs}
use Rattle.inside_run.proofs.run.wanted_number.Goals as goal

pub returns-in-First-clause-leads : goal.returns-in-First-clause-leads
returns-in-First-clause-leads c =
    c.in_ok-evaluate-in-First.ensures.leads c.args.ground.now c.args.tasks.now
    ∙ ap (λ z. evaluated c.args.ground.now.place c.in-First.last.now (scope_of c.args.tasks.now) (λ v. wanted c.args.ground.now (want.Last c.in-First.variable z c.in-First.list c.in-First.body) v (scope_of c.args.tasks.now) c.args.state (continued c.args.ground.now c.args.tasks.now))) (to_z-of_z w64 c.args.number c.ranges.number)
    ∙ sym (ap (λ (w : Want). wanted c.args.ground.now w (value.Whole c.args.number) (scope_of c.args.tasks.now) c.args.state (continued c.args.ground.now c.args.tasks.now)) c.in-First.is)

pub returns-in-Last-clause-leads : goal.returns-in-Last-clause-leads
returns-in-Last-clause-leads c =
    subst (λ (w : Want). Leads c.args.ground.now c.turns_from.result c.turns_from.new.tasks (wanted c.args.ground.now w (value.Whole c.args.number) (scope_of c.args.tasks.now) c.args.state (continued c.args.ground.now c.args.tasks.now))) (sym c.in-Last.is)
    (leads_from c.args.ground.now c.in-Last.variable.now c.in-Last.list.now c.in-Last.body c.args.tasks.now c.args.state c.turns_from.result c.turns_from.new.tasks
    (to_z w64 (of_z w64 c.in-Last.first)) c.in-Last.first (to_z w64 (of_z w64 c.args.number)) c.args.number
    (to_z-of_z w64 c.in-Last.first (search rules)) (to_z-of_z w64 c.args.number c.ranges.number) c.turns_from.ensures.leads)

pub returns-in-Last-clause-spends : goal.returns-in-Last-clause-spends
returns-in-Last-clause-spends c =
    spends_more c.args.ground.now 1 _ _ _ c.args.tasks.now c.args.state.turns c.turns_from.result c.turns_from.new.tasks
    (last_within c.args.ground.now c.args.want c.in-Last.variable c.in-Last.first c.in-Last.list c.in-Last.body c.in-Last.is) (last_costs c.args.want c.in-Last.variable c.in-Last.first c.in-Last.list c.in-Last.body c.in-Last.is) c.turns_from.ensures.spends

pub returns-in-Part-clause-leads : goal.returns-in-Part-clause-leads
returns-in-Part-clause-leads c =
    subst (λ x. Leads c.args.ground.now c.part.result c.part.new.tasks x)
    (sym (
    ap (λ (w : Want). wanted c.args.ground.now w (value.Whole c.args.number) (scope_of c.args.tasks.now) c.args.state (continued c.args.ground.now c.args.tasks.now)) c.in-Part.is
    ∙ ap (λ (f : Result ℕ ModelFault). result_then f (part_begun c.args.ground.now c.in-Part.connection.now c.in-Part.side (scope_of c.args.tasks.now) c.args.state (continued c.args.ground.now c.args.tasks.now)))
    (ap (λ z. part_named c.args.ground.now.submodules.now c.args.state.parts c.in-Part.name.now (Some z)) (sym (to_z-of_z w64 c.args.number c.ranges.number)) ∙ c.in_ok-named-in-Part.ensures)
    ))
    c.part.ensures.leads

pub returns-in-Part-clause-spends : goal.returns-in-Part-clause-spends
returns-in-Part-clause-spends c =
    spends_more c.args.ground.now _ _ 0 _ c.args.tasks.now c.args.state.turns c.part.result c.part.new.tasks (part_within c.args.ground.now c.args.want c.in-Part.connection c.in-Part.side c.in-Part.name c.in-Part.is) (none_costs _) c.part.ensures.spends

pub returns-clause-spends : goal.returns-clause-spends
returns-clause-spends c =
    spends_more c.args.ground.now _ _ 0 _ c.args.tasks.now c.args.state.turns c.at.result c.at.new.tasks (index_within c.args.ground.now c.args.want c.in-Index.connection c.in-Index.side c.in-Index.gate c.in-Index.is) (none_costs _) c.at.ensures.spends
