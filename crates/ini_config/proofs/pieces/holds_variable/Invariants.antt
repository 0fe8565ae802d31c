use Rattle.std.proofs.Common.{◌≡◌, drop}
use Rattle.ini_config.specs.Texts as texts
use Rattle.ini_config.proofs.pieces.holds_variable.Given as goal

abbrev pub invariant-loop-b : goal.invariant-loop-b
invariant-loop-b l = texts.holds_variable l.before (drop l.b-index l.bytes) ≡ texts.holds_variable 0 l.bytes
