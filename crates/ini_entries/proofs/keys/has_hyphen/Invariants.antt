use Rattle.std.proofs.Common.{◌≡◌, drop}
use Rattle.ini_entries.specs.Keys.{has_hyphen, has_hyphen_from}
use Rattle.ini_entries.proofs.keys.has_hyphen.Given as goal

abbrev pub invariant-loop-byte : goal.invariant-loop-byte
invariant-loop-byte l = has_hyphen_from l.in_set l.escaped (drop l.byte-index l.part) ≡ has_hyphen l.part
