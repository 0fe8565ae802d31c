use Rattle.std.proofs.Common.{◌≡◌, drop}
use Rattle.ned_inheritance.specs.Places.{first_told, line_clash_in}
use Rattle.ned_inheritance.proofs.connections.lines_clash.Given as goal

abbrev pub invariant-loop-number : goal.invariant-loop-number
invariant-loop-number l = first_told (line_clash_in l.named l.item) l.number (drop l.number l.lines) ≡ first_told (line_clash_in l.named l.item) 0 l.lines
