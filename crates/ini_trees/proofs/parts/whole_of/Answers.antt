use Rattle.std.proofs.Common.{◌≡◌, sym, ◌∙◌}
use Rattle.ini_trees.proofs.PartLaws.{row_is_merge}
use Rattle.ini_trees.proofs.parts.whole_of.Goals as goal

pub returns-then-are_parts : goal.returns-then-are_parts
returns-then-are_parts c =
    row_is_merge c.args.lines.now c.args.row.now c.line_at-whole.result.now c.in-len1-up.len_at_least c.requires.once c.line_at-whole.ensures (sym c.is_part.ensures ∙ c.if-is_part.true) (sym c.are_parts.ensures ∙ c.if-are_parts.true)
