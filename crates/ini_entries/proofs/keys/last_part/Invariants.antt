use Rattle.std.proofs.Common.{◌≡◌, length}
use Rattle.std.specs.Option.{option_copied}
use Rattle.ini_entries.specs.Keys.{last_part}
use Rattle.ini_entries.proofs.KeyLaws.{reached}
use Rattle.ini_entries.proofs.keys.last_part.Given as goal

abbrev pub invariant-bytes : goal.invariant-bytes
invariant-bytes l = reached l.place l.escaped l.rest (option_copied l.found) (option_copied l.kept) ≡ last_part l.key

abbrev pub decreases-bytes : goal.decreases-bytes
decreases-bytes l = length l.rest
