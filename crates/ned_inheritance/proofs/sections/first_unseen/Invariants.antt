use Rattle.std.proofs.Common.{◌≡◌, drop}
use Rattle.ned_inheritance.specs.Places.{first_from}
use Rattle.ned_inheritance.specs.Seen.{names_in, sets_undeclared}
use Rattle.ned_inheritance.proofs.sections.first_unseen.Given as goal

abbrev pub invariant-loop-at : goal.invariant-loop-at
invariant-loop-at l = first_from (λ n. sets_undeclared (names_in l.seen.keys) n) l.at (drop l.at l.lines) ≡ first_from (λ n. sets_undeclared (names_in l.seen.keys) n) 0 l.lines
