use Rattle.std.proofs.Common.{◌≡◌, ◌-◌, ◌≤◌, length, take, drop}
use Rattle.ini_config.specs.Texts.{lines_of_ini}
use Rattle.ini_config.proofs.PieceLaws.{join_front}
use Rattle.ini_config.proofs.pieces.first_ini_line.Given as goal

abbrev pub invariant-bytes : goal.invariant-bytes
invariant-bytes l = record {
  within : l.end ≤ length l.bytes;
  lines : lines_of_ini l.bytes ≡ join_front (take l.end l.bytes) (lines_of_ini (drop l.end l.bytes));
}

abbrev pub decreases-bytes : goal.decreases-bytes
decreases-bytes l = length l.bytes - l.end
