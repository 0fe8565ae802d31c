use Rattle.std.proofs.Common.{◌≡◌, drop}
use Rattle.rest_index.specs.Following.{with_all, without_all}
use Rattle.rest_index.proofs.giving_up.give_up_all.Given as goal

abbrev pub invariant-loop-place : goal.invariant-loop-place
invariant-loop-place l = (without_all l.flags (drop l.place-index l.places) ≡ without_all l.fn.flags l.fn.places) × (with_all l.flags.live l.flags.given ≡ with_all l.fn.flags.live l.fn.flags.given)
