use Rattle.std.proofs.Common.{◌≡◌, drop}
use Rattle.rest_index.specs.Following.{with_all, without_askers, without_users}
use Rattle.rest_index.specs.Rests.{users_of}
use Rattle.rest_index.proofs.giving_up.give_up_askers.Given as goal

abbrev pub invariant-loop-user : goal.invariant-loop-user
invariant-loop-user l = (without_users l.rows l.place l.flags (drop l.user-index (users_of l.rows l.place)) ≡ without_askers l.fn.rows l.fn.flags l.fn.place)
    × (with_all l.flags.live l.flags.given ≡ with_all l.fn.flags.live l.fn.flags.given)
