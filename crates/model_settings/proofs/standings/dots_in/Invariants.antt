use Rattle.std.proofs.Common.{◌≡◌, ◌+◌, ◌≤◌, drop}
use Rattle.model_settings.specs.Standings.{dots_in}
use Rattle.model_settings.proofs.standings.dots_in.Given as goal

abbrev pub invariant-loop-byte : goal.invariant-loop-byte
invariant-loop-byte l = record {
  few : l.dots ≤ l.byte-index;
  counted : l.dots + dots_in (drop l.byte-index l.path) ≡ dots_in l.path;
}
