use Rattle.std.proofs.Common.{◌≡◌, drop}
use Rattle.ned_inheritance.specs.Places.{unknown_channel_from}
use Rattle.ned_inheritance.proofs.connections.unknown_channel.Given as goal

abbrev pub invariant-loop-at : goal.invariant-loop-at
invariant-loop-at l = unknown_channel_from l.named l.at (drop l.at l.items) ≡ unknown_channel_from l.named 0 l.items
