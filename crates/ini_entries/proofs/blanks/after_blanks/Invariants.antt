use Rattle.std.proofs.Common.{◌≡◌, length}
use Rattle.ini_entries.specs.Texts as texts
use Rattle.ini_entries.proofs.blanks.after_blanks.Given as goal

abbrev pub invariant-blanks : goal.invariant-blanks
invariant-blanks l = texts.after_blanks l.rest ≡ texts.after_blanks l.bytes

abbrev pub decreases-blanks : goal.decreases-blanks
decreases-blanks l = length l.rest
