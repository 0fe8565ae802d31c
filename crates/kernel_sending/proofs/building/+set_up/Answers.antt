use Rattle.std.proofs.Common.{◌-◌, ◌≤◌, ap, sym, ◌∙◌, arith, length, subst}
use Rattle.std.specs.List.{All}
use Rattle.run_semantics.specs.Perform.{On, for_each}
use Rattle.run_semantics.specs.Run.{set_up}
use Rattle.kernel_actions.proofs.Growing.{growth_on}
use Rattle.kernel_sending.proofs.Levels.{deeper}
use Rattle.kernel_sending.proofs.Loops.{each_step}
use Rattle.kernel_sending.proofs.Within.{long_on}
use Rattle.kernel_sending.proofs.building.+set_up.Goals as goal

pub loop-inner_id-init : goal.loop-inner_id-init
loop-inner_id-init g t c = record {
  flow =
      let m = g.A.Answers.answers in
      let built = rw c.in-GoOn.is at c.in_ok-turn.ensures.built in
      ap (λ ids. for_each (set_up (c.args.depth - 1) m) ids c.build.new.core) c.as_slice-inner_id-items.ensures
      ∙ built (set_up (c.args.depth - 1) m)
      ∙ sym (deeper m c.args.depth c.args.id c.args.core.now (omega (arith, c.if-depth-eq0.false)));
  grown = c.build.ensures.grown;
  there = subst (All (λ n. n ≤ length c.build.new.core.records)) (sym c.as_slice-inner_id-items.ensures) c.in_ok-turn.ensures.there;
}

pub loop-inner_id-preserved : goal.loop-inner_id-preserved
loop-inner_id-preserved g t c = record {
  flow = each_step (set_up (c.args.depth - 1) g.A.Answers.answers) c.as_slice-inner_id-items.result.now c.loop-inner_id.inner_id-index 0 c.loop-inner_id.core (On c.set_up.new.core) _ (omega arith) (rw c.in-GoOn-2.is at c.in_ok-turn-2.ensures.flow) c.loop-inner_id.invariant.flow;
  grown = growth_on c.args.core.now c.loop-inner_id.core c.set_up.new.core c.loop-inner_id.invariant.grown c.set_up.ensures.grown;
  there = λ k d l. let own = c.loop-inner_id.invariant.there k d l in let more = long_on c.loop-inner_id.core.records c.set_up.new.core.records c.set_up.ensures.grown.records in omega (arith, own, more);
}
