use Rattle.std.proofs.Common.{◌+◌, ◌≤◌, length}
use Rattle.ini_config.specs.Texts.{lines_of_ini}
use Rattle.ini_config.proofs.MeaningLaws.{Reached}
use Rattle.ini_config.proofs.parse.read.Given as goal

abbrev pub invariant-lines : goal.invariant-lines
invariant-lines l = record {
  reached : Reached (lines_of_ini l.bytes) (lines_of_ini l.rest) l.lines l.number l.section;
  small : l.number + length l.rest ≤ length l.bytes + 1;
}

abbrev pub decreases-lines : goal.decreases-lines
decreases-lines l = length l.rest
