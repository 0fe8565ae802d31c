use Rattle.std.proofs.Common.{◌≡◌, ◌≤◌, length, take}
use Rattle.ini_entries.specs.Texts as texts
use Rattle.ini_entries.proofs.blanks.before_blanks.Given as goal

abbrev pub invariant-blanks : goal.invariant-blanks
invariant-blanks l = record {
  within : l.end ≤ length l.bytes;
  same : texts.before_blanks (take l.end l.bytes) ≡ texts.before_blanks l.bytes;
}

abbrev pub decreases-blanks : goal.decreases-blanks
decreases-blanks l = l.end
