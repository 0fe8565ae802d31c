use Rattle.std.proofs.Common.{◌∷◌, [], ◌++◌, sym, ap, ◌∙◌}
use Rattle.ini_entries.specs.Texts.{Bytes}
use Rattle.ini_config.specs.Edits.{bytes_of, texts_of}
use Rattle.ini_config.proofs.EditLaws.{bytes_between}
use Rattle.ini_config.proofs.edits.bytes_with.Goals as goal

pub returns : goal.returns
returns c =
    let front = c.in_ok-push_lines.ensures ∙ ap (λ (l : Bytes). l ++ bytes_of (texts_of c.args.before.now)) c.new-bytes.ensures.items in
    let line = c.in_ok-push_line.ensures ∙ ap (λ (l : Bytes). l ++ c.args.text.now ++ 10 ∷ []) front in
    c.in_ok-push_lines-2.ensures
    ∙ ap (λ (l : Bytes). l ++ bytes_of (texts_of c.args.behind.now)) line
    ∙ sym (bytes_between c.args.before.now c.args.text.now c.args.behind.now)
