-- the later lines go before what was found
use Rattle.std.proofs.Common.{◌≡◌, drop}
use Rattle.std.specs.Option.{option_copied}
use Rattle.ned_types.specs.Flat.{or_else}
use Rattle.inside_keys.specs.Given.{last_size}
use Rattle.inside_run.proofs.posed.last_size.Given as goal

abbrev pub invariant-loop-line : goal.invariant-loop-line
invariant-loop-line l = or_else (last_size l.name (drop l.line-index l.lines)) (option_copied l.found) ≡ last_size l.name l.lines
