use Rattle.std.proofs.Common.{◌≡◌, ◌-◌, ◌≤◌, ◌++◌, length, take, drop}
use Rattle.ini_config.specs.Texts as texts
use Rattle.ini_config.proofs.pieces.plain_length.Given as goal

abbrev pub invariant-bytes : goal.invariant-bytes
invariant-bytes l = record {
  within : l.end ≤ length l.bytes;
  text : take l.end l.bytes ++ texts.before_hash (drop l.end l.bytes) ≡ texts.before_hash l.bytes;
}

abbrev pub decreases-bytes : goal.decreases-bytes
decreases-bytes l = length l.bytes - l.end
