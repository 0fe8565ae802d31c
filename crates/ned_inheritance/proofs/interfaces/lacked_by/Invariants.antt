use Rattle.std.proofs.Common.{◌≡◌, drop}
use Rattle.ned_inheritance.specs.Places.{lacked_from}
use Rattle.ned_inheritance.specs.Repeated.{LacksNothingOf}
use Rattle.ned_inheritance.specs.Seen.{names_in}
use Rattle.ned_inheritance.proofs.interfaces.lacked_by.Given as goal

abbrev pub invariant-loop-number : goal.invariant-loop-number
invariant-loop-number l =
    (lacked_from l.named l.declared l.number (drop l.number l.declared.interfaces) ≡ lacked_from l.named l.declared 0 l.declared.interfaces)
    × LacksNothingOf l.named l.declared (names_in l.seen.keys)
