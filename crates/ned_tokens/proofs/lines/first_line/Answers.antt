use Rattle.std.proofs.Common.{◌+◌, ◌∙◌, arith, length-drop}
use Rattle.std.proofs.lemmas.Bool.Decides.{nat_tests}
use Rattle.ned_tokens.proofs.LineLemmas.{join_step, join_ends, join_all}
use Rattle.ned_tokens.proofs.lines.first_line.Goals as goal

pub returns-then-bytes-end-eq10 : goal.returns-then-bytes-end-eq10
returns-then-bytes-end-eq10 c = record {
  lines = rw (c.split_at.ensures.front, c.split_at-then-bytes-end-eq10.ensures.back) (c.bytes.invariant.lines ∙ join_ends c.args.bytes.now c.bytes.end c.bytes-test.true c.if-bytes-end-eq10.true);
  shorter = rw (c.split_at-then-bytes-end-eq10.ensures.back) (omega (arith, length-drop (c.bytes.end + 1) c.args.bytes.now));
}

pub bytes-preserved : goal.bytes-preserved
bytes-preserved c = record { within = omega arith; lines = c.bytes.invariant.lines ∙ join_step c.args.bytes.now c.bytes.end c.bytes-test.true (grind (arith, nat_tests)) }

pub returns-clause-lines : goal.returns-clause-lines
returns-clause-lines c = c.bytes.invariant.lines ∙ join_all c.args.bytes.now c.bytes.end c.requires c.bytes-test.false
