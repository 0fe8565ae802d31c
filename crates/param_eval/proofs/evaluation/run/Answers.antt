use Rattle.std.proofs.Common.{sym, ◌∙◌, ap, arith}
use Rattle.param_eval.specs.Evaluating.{continued, step_of, weight, step_weight}
use Rattle.param_eval.proofs.Tasks.{continued_push, weight_push}
use Rattle.param_eval.proofs.evaluation.run.Goals as goal

pub loop-step-smaller : goal.loop-step-smaller
loop-step-smaller c = omega (arith, c.in_ok-step-in-Some.ensures.weight, ap weight c.in-Some.ensures.items, weight_push c.pop.new.self.items c.in-Some.task, ap step_weight c.in-Keep.is)

pub loop-step-preserved : goal.loop-step-preserved
loop-step-preserved c =
    record {
      same = c.in_ok-step-in-Some.ensures.step
          ∙ sym (continued_push c.pop.new.self.items c.in-Some.task c.in-Keep.value)
          ∙ sym (ap (λ l. continued l c.in-Keep.value) c.in-Some.ensures.items)
          ∙ sym (ap (step_of c.loop-step.tasks.items) c.in-Keep.is)
          ∙ c.loop-step.invariant.same;
      less = omega (
        arith,
        c.in_ok-step-in-Some.ensures.weight,
        ap weight c.in-Some.ensures.items,
        weight_push c.pop.new.self.items c.in-Some.task,
        ap step_weight c.in-Keep.is,
        c.loop-step.invariant.less,
      );
    }
