use Rattle.std.proofs.Common.{◌+◌, refl, sym, ◌∙◌, arith, drop}
use Rattle.run_semantics.specs.Perform.{On, flow_of, act, act_all, deed}
use Rattle.kernel_actions.proofs.Growing.{growth_on}
use Rattle.kernel_actions.proofs.Lasting.{growth_same}
use Rattle.kernel.proofs.Calling.{last_next}
use Rattle.kernel.proofs.Starting.{stops, each_on, each_ends}
use Rattle.kernel.proofs.finishing.act_all.Goals as goal

pub loop-action-init : goal.loop-action-init
loop-action-init c = record { step = refl; next = omega arith; grown = growth_same c.args.core.now }

pub loop-action-preserved : goal.loop-action-preserved
loop-action-preserved c = record {
  step = each_on (act (deed c.args.id) c.args.occasion c.args.id) c.args.actions.now c.loop-action.action-index c.action-item.result c.loop-action.core (On c.act.new.core) _ (omega arith) c.action-item.is (rw c.in-GoOn.is at c.in_ok-turn.ensures.step) c.loop-action.invariant.step;
  next = omega (arith, c.loop-action.invariant.next, last_next c.args.occasion c.args.id c.action-item.result c.in_ok-turn.turn c.loop-action.core c.act.new.core c.in_ok-turn.ensures.step);
  grown = growth_on c.args.core.now c.loop-action.core c.act.new.core c.loop-action.invariant.grown c.act.ensures.grown;
}

pub returns-in_default-clause-step : goal.returns-in_default-clause-step
returns-in_default-clause-step c =
    sym (stops c.in_ok-turn.turn c.act.new.core (act_all (deed c.args.id) c.args.occasion c.args.id (drop (c.loop-action.action-index + 1) c.args.actions.now)) c.in_default.not-GoOn)
    ∙ each_on (act (deed c.args.id) c.args.occasion c.args.id) c.args.actions.now c.loop-action.action-index c.action-item.result c.loop-action.core (flow_of c.in_ok-turn.turn c.act.new.core) _ (omega arith) c.action-item.is c.in_ok-turn.ensures.step c.loop-action.invariant.step

pub returns-clause-step : goal.returns-clause-step
returns-clause-step c =
    sym (each_ends (act (deed c.args.id) c.args.occasion c.args.id) c.args.actions.now c.loop-action.action-index c.loop-action.core (omega arith)) ∙ c.loop-action.invariant.step
