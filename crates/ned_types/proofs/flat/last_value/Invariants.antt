use Rattle.std.proofs.Common.{◌≡◌, drop}
use Rattle.std.specs.Option.{option_copied}
use Rattle.ned_types.specs.Flat.{last_value, or_else}
use Rattle.ned_types.proofs.flat.last_value.Given as goal

abbrev pub invariant-loop-line : goal.invariant-loop-line
invariant-loop-line l = or_else (last_value l.name (drop l.line-index l.lines)) (option_copied l.found) ≡ last_value l.name l.lines
