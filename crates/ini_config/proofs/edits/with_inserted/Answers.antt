use Rattle.std.proofs.Common.{ℕ, ◌-◌, take, drop, IfOk, ap, subst, ◌∙◌}
use Rattle.ini_config.specs.Edits.{Edit, IsEdited, is_place}
use Rattle.ini_config.proofs.EditLaws.{same_with}
use Rattle.ini_config.proofs.EditedLines.{lines_between}
use Rattle.ini_config.proofs.edits.with_inserted.Goals as goal

pub returns-clause-lines : goal.returns-clause-lines
returns-clause-lines c =
    let front = c.first_lines-before.ensures ∙ ap (λ (n : ℕ). take n c.lines.result.now) c.saturating_sub-at.ensures ∙ ap (take (c.args.line - 1)) c.lines.ensures in
    let back = c.lines_behind-behind.ensures ∙ ap (λ (n : ℕ). drop n c.lines-2.result.now) c.saturating_sub-at.ensures ∙ ap (drop (c.args.line - 1)) c.lines-2.ensures in
    let found = c.is_place-found.ensures ∙ ap (is_place c.args.line) c.lines-3.ensures in
    let same = same_with _ _ c.args.text.now _ _ c.args.line _ _ front back found in
    lines_between c.args.text.now (c.args.line - 1) (c.args.line - 1) c.args.line _ c.args.ini.now c.edited_with.result (subst (λ (e : Edit). IfOk c.edited_with.result (IsEdited e)) same c.edited_with.ensures.accepted)
