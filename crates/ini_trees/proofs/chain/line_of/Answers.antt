use Rattle.std.proofs.Common.{◌≡◌, sym, ◌∙◌}
use Rattle.ini_trees.proofs.PartLaws.{alone_is_merge}
use Rattle.ini_trees.proofs.chain.line_of.Goals as goal

pub returns-then-stand_once-clause-line : goal.returns-then-stand_once-clause-line
returns-then-stand_once-clause-line c = (
  c.args.row.now,
  c.in_ok-line_with-2.ensures,
  alone_is_merge c.args.lines.now c.args.row.now (c.stand_once.ensures.once c.if-stand_once.true) (sym c.are_alone.ensures ∙ c.if-are_alone.true),
)
