use Rattle.std.proofs.Common.{◌-◌, length, take, drop, ap, ◌∙◌, arith, length-drop}
use Rattle.std.proofs.lemmas.List.{take_rest}
use Rattle.result_lines.proofs.TextLemmas.{sent_more, count_behind_some}
use Rattle.result_lines.proofs.progress.put_all.Goals as goal

pub loop-sent-preserved : goal.loop-sent-preserved
loop-sent-preserved g c =
    let rest = take_rest c.args.piece.now c.loop-sent.sent in
    let none = count_behind_some c.in-Ok.taken (take (length c.args.piece.now - c.loop-sent.sent) (drop c.loop-sent.sent c.args.piece.now)) (g.O.Out.taken c.loop-sent.out).failures c.if-taken-gt0.true in
    record {
      within = omega (arith, c.in-Ok.ensures.within, ap length rest, length-drop c.loop-sent.sent c.args.piece.now);
      bytes = sent_more (g.O.Out.taken c.args.out.now).bytes (g.O.Out.taken c.loop-sent.out).bytes (g.O.Out.taken c.write.new.self).bytes c.args.piece.now c.loop-sent.sent c.in-Ok.taken c.loop-sent.invariant.bytes c.in-Ok.ensures.bytes;
      failures = c.in-Ok.ensures.counted ∙ none ∙ c.loop-sent.invariant.failures;
    }
