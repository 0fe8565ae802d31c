use Rattle.std.proofs.Common.{◌++◌, sym, ap, ◌∙◌}
use Rattle.ini_entries.specs.Texts.{Bytes}
use Rattle.ini_config.specs.Edits.{bytes_of, texts_of}
use Rattle.ini_config.proofs.EditLaws.{bytes_joined}
use Rattle.ini_config.proofs.edits.bytes_without.Goals as goal

pub returns : goal.returns
returns c =
    let front = c.in_ok-push_lines.ensures ∙ ap (λ (l : Bytes). l ++ bytes_of (texts_of c.args.before.now)) c.new-bytes.ensures.items in
    c.in_ok-push_lines-2.ensures
    ∙ ap (λ (l : Bytes). l ++ bytes_of (texts_of c.args.behind.now)) front
    ∙ sym (bytes_joined (texts_of c.args.before.now) (texts_of c.args.behind.now))
