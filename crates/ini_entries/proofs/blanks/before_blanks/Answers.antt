use Rattle.std.proofs.Common.{sym, ◌∙◌, arith}
use Rattle.ini_entries.proofs.BlankLaws.{trim_at, keep_at, trim_none}
use Rattle.ini_entries.proofs.blanks.before_blanks.Goals as goal
use Rattle.ini_entries.proofs.blanks.before_blanks.Goals.{then-blanks-test+else-is_blank, else-blanks-test}

pub blanks-preserved : goal.blanks-preserved
blanks-preserved c = record {
  within = omega arith;
  same = trim_at c.args.bytes.now c.blanks.end c.blanks-test.true c.blanks.invariant.within (sym c.is_blank.ensures ∙ c.if-is_blank.true) ∙ c.blanks.invariant.same;
}

pub returns : goal.returns
returns c =
    elim c.blanks-test.branch [
      | then-blanks-test+else-is_blank w ↦ keep_at c.args.bytes.now c.blanks.end w.blanks-test.true c.blanks.invariant.within (sym w.is_blank.ensures ∙ w.if-is_blank.false) ∙ c.blanks.invariant.same
      | else-blanks-test w ↦ trim_none c.args.bytes.now c.blanks.end w.blanks-test.false ∙ c.blanks.invariant.same
    ]
