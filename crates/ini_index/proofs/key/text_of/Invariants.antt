use Rattle.std.proofs.Common.{◌≡◌, take}
use Rattle.std.specs.String.{string_bytes}
use Rattle.ini_index.specs.Keys.{text_of}
use Rattle.ini_index.proofs.key.text_of.Given as goal

abbrev pub invariant-loop-piece : goal.invariant-loop-piece
invariant-loop-piece l = string_bytes l.text ≡ text_of (take l.piece-index l.pieces)
