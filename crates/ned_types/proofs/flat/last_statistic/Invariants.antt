use Rattle.std.proofs.Common.{◌≡◌, drop}
use Rattle.std.specs.Option.{option_copied}
use Rattle.ned_types.specs.Flat.{last_statistic, or_else}
use Rattle.ned_types.proofs.flat.last_statistic.Given as goal

abbrev pub invariant-loop-line : goal.invariant-loop-line
invariant-loop-line l = or_else (last_statistic l.name (drop l.line-index l.lines)) (option_copied l.found) ≡ last_statistic l.name l.lines
