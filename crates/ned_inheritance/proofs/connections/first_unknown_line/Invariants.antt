use Rattle.std.proofs.Common.{◌≡◌, drop}
use Rattle.ned_types.specs.Clashes.{is_channel_unknown}
use Rattle.ned_inheritance.specs.Places.{first_from}
use Rattle.ned_inheritance.proofs.connections.first_unknown_line.Given as goal

abbrev pub invariant-loop-at : goal.invariant-loop-at
invariant-loop-at l = first_from (λ c. is_channel_unknown l.named c) l.at (drop l.at l.lines) ≡ first_from (λ c. is_channel_unknown l.named c) 0 l.lines
