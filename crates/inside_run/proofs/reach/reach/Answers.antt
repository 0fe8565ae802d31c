use Rattle.std.proofs.Common.{◌∙◌, ap, sym, arith}
use Rattle.inside_keys.specs.Asked.{meant_then, valued_then}
use Rattle.inside_keys.specs.Places.{meant_under}
use Rattle.inside_keys.specs.declared.place.Meaning.{Meaning}
use Rattle.param_eval.specs.declared.evaluation.EvaluationStep.{EvaluationStep}
use Rattle.param_eval.specs.Evaluating.{came_to, resumed}
use Rattle.param_eval.specs.Values.{Valued}
use Rattle.inside_run.proofs.reach.reach.Goals as goal

pub returns-in-Done-clause-reaches : goal.returns-in-Done-clause-reaches
returns-in-Done-clause-reaches g c = λ next.
    sym (ap (λ (t : EvaluationStep). valued_then (meant_under (g.V.Variables.scope c.args.variables.now) c.args.place.now) (came_to c.loop-turn.evaluation t) next) c.in-Done.is) ∙ c.loop-turn.invariant.same next

pub returns-in-Fault-clause-reaches : goal.returns-in-Fault-clause-reaches
returns-in-Fault-clause-reaches g c = λ next.
    sym (c.loop-turn.invariant.same next)
    ∙ ap (λ (t : EvaluationStep). valued_then (meant_under (g.V.Variables.scope c.args.variables.now) c.args.place.now) (came_to c.loop-turn.evaluation t) next) c.in-Fault.is

pub returns-in-Of-clause-reaches : goal.returns-in-Of-clause-reaches
returns-in-Of-clause-reaches g c = λ next.
    ap (λ (m : Meaning). meant_then m (λ v. valued_then (meant_under (g.V.Variables.scope c.args.variables.now) c.args.place.now) (resumed c.loop-turn.evaluation v) next)) (sym c.in-Of.is ∙ c.in_ok-value-in-Ask.ensures)
    ∙ sym (ap (λ (t : EvaluationStep). valued_then (meant_under (g.V.Variables.scope c.args.variables.now) c.args.place.now) (came_to c.loop-turn.evaluation t) next) c.in-Ask.is)
    ∙ c.loop-turn.invariant.same next

pub returns-in-Nothing-clause-reaches : goal.returns-in-Nothing-clause-reaches
returns-in-Nothing-clause-reaches g c = λ next.
    sym (c.loop-turn.invariant.same next)
    ∙ ap (λ (t : EvaluationStep). valued_then (meant_under (g.V.Variables.scope c.args.variables.now) c.args.place.now) (came_to c.loop-turn.evaluation t) next) c.in-Ask.is
    ∙ ap (λ (m : Meaning). meant_then m (λ v. valued_then (meant_under (g.V.Variables.scope c.args.variables.now) c.args.place.now) (resumed c.loop-turn.evaluation v) next)) (sym c.in_ok-value-in-Ask.ensures ∙ c.in-Nothing.is)

pub loop-turn-preserved : goal.loop-turn-preserved
loop-turn-preserved g c = record {
  same = λ next.
      ap (λ (t : Valued). valued_then (meant_under (g.V.Variables.scope c.args.variables.now) c.args.place.now) t next) c.in_ok-turn-in-Is.ensures.turn
      ∙ ap (λ (m : Meaning). meant_then m (λ v. valued_then (meant_under (g.V.Variables.scope c.args.variables.now) c.args.place.now) (resumed c.loop-turn.evaluation v) next)) (sym c.in-Is.is ∙ c.in_ok-value-in-Ask.ensures)
      ∙ sym (ap (λ (t : EvaluationStep). valued_then (meant_under (g.V.Variables.scope c.args.variables.now) c.args.place.now) (came_to c.loop-turn.evaluation t) next) c.in-Ask.is)
      ∙ c.loop-turn.invariant.same next;
  less = omega (arith, c.in_ok-turn-in-Is.ensures.less, c.loop-turn.invariant.less);
}
