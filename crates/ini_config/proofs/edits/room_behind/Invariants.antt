use Rattle.std.proofs.Common.{◌≡◌, ◌+◌, length, drop}
use Rattle.ini_config.specs.Edits.{bytes_of, texts_of}
use Rattle.ini_config.proofs.edits.room_behind.Given as goal

abbrev pub invariant-loop-line : goal.invariant-loop-line
invariant-loop-line l = l.left + length (bytes_of (texts_of l.lines)) ≡ l.room + length (bytes_of (texts_of (drop l.line-index l.lines)))
