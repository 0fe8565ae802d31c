use Rattle.std.proofs.Common.{◌∙◌, length, arith}
use Rattle.ini_config.specs.Edits.{bytes_of, texts_of}
use Rattle.ini_config.proofs.EditLaws.{room_moved, room_tested, size_joined, too_long}
use Rattle.ini_config.proofs.edits.fit_without.Goals as goal

pub returns-in_default : goal.returns-in_default
returns-in_default c = too_long _ _ (omega (arith, size_joined c.args.before.now c.args.behind.now, c.in_default.ensures))

pub returns : goal.returns
returns c =
    c.is_some.ensures
    ∙ room_tested c.in-Some.room _ c.room_behind-2.result c.room_behind-2.ensures
    ∙ room_moved (length (bytes_of (texts_of c.args.before.now))) _ c.in-Some.room _ _
    (size_joined c.args.before.now c.args.behind.now)
    c.in-Some.ensures
