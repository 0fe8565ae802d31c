use Rattle.std.proofs.Common.{sym, ◌∙◌, arith}
use Rattle.std.proofs.lemmas.List.{take_all}
use Rattle.run_question_log.proofs.Shorter.{popped_first, popped_less}
use Rattle.run_question_log.proofs.cutting.cut_items.Goals as goal

pub loop-items-smaller-in-loop-items : goal.loop-items-smaller-in-loop-items
loop-items-smaller-in-loop-items g c = popped_less c.args.left c.pop.result c.loop-items.items c.pop.new.self c.pop.ensures (omega (arith, c.loop-items-test.true, c.len.ensures))

pub loop-items-preserved-in-loop-items : goal.loop-items-preserved-in-loop-items
loop-items-preserved-in-loop-items g c =
    popped_first c.args.left c.pop.result c.loop-items.items c.pop.new.self c.pop.ensures (omega (arith, c.loop-items-test.true, c.len.ensures)) ∙ c.loop-items.invariant

pub returns : goal.returns
returns g c = sym (take_all c.args.left c.loop-items.items (omega (arith, c.loop-items-test.false, c.len.ensures))) ∙ c.loop-items.invariant
