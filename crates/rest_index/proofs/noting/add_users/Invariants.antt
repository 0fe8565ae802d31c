use Rattle.std.proofs.Common.{take}
use Rattle.rest_index.specs.Noting.{AllKnow, HaveMoreUsers}
use Rattle.rest_index.proofs.noting.add_users.Given as goal

abbrev pub invariant-loop-place : goal.invariant-loop-place
invariant-loop-place l = HaveMoreUsers l.user l.places l.fn.rows.items l.rows.items × AllKnow l.rows.items l.user (take l.place-index l.places)
