use Rattle.std.proofs.Common.{◌≡◌, Some, None, sym, ap, ◌∙◌, arith}
use Rattle.ini_config.specs.Texts.{after_line_end}
use Rattle.ini_config.proofs.PieceLaws.{join_nil, join_step, join_ends, join_all}
use Rattle.ini_config.proofs.pieces.first_ini_line.Goals as goal

pub bytes-init : goal.bytes-init
bytes-init c = record { within = omega arith; lines = join_nil c.args.bytes.now c.requires }

pub returns-in-Some-clause-lines : goal.returns-in-Some-clause-lines
returns-in-Some-clause-lines c =
    let found : after_line_end c.split_at.result.1.now ≡ Some c.in-Some.after.now = sym c.in-Some.ensures in
    let ends = join_ends c.args.bytes.now c.in-Some.after.now c.bytes.end (ap after_line_end (sym c.split_at.ensures.back) ∙ found) in
    rw c.split_at.ensures.front (c.bytes.invariant.lines ∙ ends)

pub bytes-preserved : goal.bytes-preserved
bytes-preserved c =
    let none : after_line_end c.split_at.result.1.now ≡ None = sym c.in_default.ensures in
    record {
      within = omega arith;
      lines = c.bytes.invariant.lines ∙ join_step c.args.bytes.now c.bytes.end c.bytes-test.true (ap after_line_end (sym c.split_at.ensures.back) ∙ none);
    }

pub returns-clause-lines : goal.returns-clause-lines
returns-clause-lines c = c.bytes.invariant.lines ∙ join_all c.args.bytes.now c.bytes.end c.bytes-test.false
