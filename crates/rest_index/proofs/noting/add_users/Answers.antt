use Rattle.std.proofs.Common.{arith}
use Rattle.std.proofs.Math.ListN.{get_or}
use Rattle.rest_index.proofs.Notes.{alone_now, among_got}
use Rattle.rest_index.proofs.noting.add_users.Goals as goal

pub add_user-requires-clause-there : goal.add_user-requires-clause-there
add_user-requires-clause-there c =
    let a = c.requires.there (get_or c.args.places.now c.loop-place.place-index 0) (among_got c.args.places.now c.loop-place.place-index c.loop-place-test.true) in
    let l = c.loop-place.invariant.0.as_long in omega (arith, a, l)

pub add_user-requires-clause-new : goal.add_user-requires-clause-new
add_user-requires-clause-new c = λ e.
    let p = get_or c.args.places.now c.loop-place.place-index 0 in
    alone_now c.args.user p c.args.places.now c.args.rows.now.items c.loop-place.rows.items c.loop-place.invariant.0 (c.requires.new e p)
