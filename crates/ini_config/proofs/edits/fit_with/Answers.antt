use Rattle.std.proofs.Common.{◌+◌, length, ◌∙◌, arith}
use Rattle.ini_config.specs.Edits.{bytes_of, texts_of}
use Rattle.ini_config.proofs.EditLaws.{room_moved, room_tested, size_between, too_long}
use Rattle.ini_config.proofs.edits.fit_with.Goals as goal

pub returns-in_default : goal.returns-in_default
returns-in_default c = too_long _ _ (omega (arith, size_between c.args.before.now c.args.text.now c.args.behind.now, c.in_default.ensures))

pub returns-in_default-room_after : goal.returns-in_default-room_after
returns-in_default-room_after c = too_long _ _ (omega (arith, size_between c.args.before.now c.args.text.now c.args.behind.now, c.in-Some.ensures, c.in_default-room_after.ensures))

pub returns : goal.returns
returns c =
    c.is_some.ensures
    ∙ room_tested c.in-Some-room_after.room _ c.room_behind-2.result c.room_behind-2.ensures
    ∙ room_moved (length (bytes_of (texts_of c.args.before.now)) + length c.args.text.now + 1) _ c.in-Some-room_after.room _ _
    (size_between c.args.before.now c.args.text.now c.args.behind.now)
    (omega (arith, c.in-Some.ensures, c.in-Some-room_after.ensures))
