use Rattle.std.proofs.Common.{arith}
use Rattle.edit_places.proofs.Reached.{none_missed, places_reached}
use Rattle.edit_places.proofs.places.reached_places.Goals as goal

pub returns-clause-reached : goal.returns-clause-reached
returns-clause-reached g c = places_reached (g.P.PlacePaths.paths c.args.at.now) c.args.before.now c.args.after.now c.common_ends-ends.result.front c.common_ends-ends.result.back
    c.common_ends-ends.ensures c.len.result c.len-2.result c.new-places.result c.add_reached.new.places c.add_reached-2.new.places c.len.ensures c.len-2.ensures c.new-places.ensures c.in_ok-add_reached.ensures c.in_ok-add_reached-2.ensures

pub returns-clause-missed : goal.returns-clause-missed
returns-clause-missed g c = none_missed c.only_first_matches_change.ensures.matched (g.P.PlacePaths.paths c.args.at.now) c.args.before.now c.args.after.now c.add_reached-2.new.places
    (places_reached (g.P.PlacePaths.paths c.args.at.now) c.args.before.now c.args.after.now c.common_ends-ends.result.front c.common_ends-ends.result.back
    c.common_ends-ends.ensures c.len.result c.len-2.result c.new-places.result c.add_reached.new.places c.add_reached-2.new.places c.len.ensures c.len-2.ensures c.new-places.ensures c.in_ok-add_reached.ensures c.in_ok-add_reached-2.ensures)
