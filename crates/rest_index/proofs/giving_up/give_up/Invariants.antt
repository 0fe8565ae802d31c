use Rattle.std.proofs.Common.{◌≡◌}
use Rattle.rest_index.specs.Following.{with_all}
use Rattle.rest_index.proofs.Going.{IsOn}
use Rattle.rest_index.proofs.giving_up.give_up.Given as goal

abbrev pub invariant-loop-next : goal.invariant-loop-next
invariant-loop-next l = IsOn l.rows l.fn.seeds l.next l.fn.flags l.flags × (with_all l.flags.live l.flags.given ≡ with_all l.fn.flags.live l.fn.flags.given)
