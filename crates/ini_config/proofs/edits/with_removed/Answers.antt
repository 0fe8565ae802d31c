use Rattle.std.proofs.Common.{ℕ, ◌-◌, take, drop, IfOk, ap, subst, ◌∙◌}
use Rattle.ini_config.specs.Edits.{Edit, IsEdited, is_line}
use Rattle.ini_config.proofs.EditLaws.{same_without}
use Rattle.ini_config.proofs.EditedLines.{lines_joined}
use Rattle.ini_config.proofs.edits.with_removed.Goals as goal

pub returns-clause-lines : goal.returns-clause-lines
returns-clause-lines c =
    let front = c.first_lines-front.ensures ∙ ap (λ (n : ℕ). take n c.lines.result.now) c.saturating_sub.ensures ∙ ap (take (c.args.line - 1)) c.lines.ensures in
    let back = c.lines_behind-behind.ensures ∙ ap (drop c.args.line) c.lines-2.ensures in
    let found = c.is_line-found.ensures ∙ ap (is_line c.args.line) c.lines-3.ensures in
    let same = same_without _ _ _ _ c.args.line _ _ front back found in
    lines_joined (c.args.line - 1) c.args.line c.args.line _ c.args.ini.now c.edited_without.result (subst (λ (e : Edit). IfOk c.edited_without.result (IsEdited e)) same c.edited_without.ensures.accepted)
