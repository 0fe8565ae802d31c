use Rattle.std.proofs.Common.{arith}
use Rattle.place_index.specs.Places.{reaches}
use Rattle.place_index.proofs.Places.{all_looked_at, next_looked_at, none_looked_at}
use Rattle.place_index.proofs.reached.add_of.Goals as goal
use Rattle.rest_index.specs.Rests.{is_among}

pub loop-place-init : goal.loop-place-init
loop-place-init g c = λ p. none_looked_at (is_among p c.args.found.now) (reaches c.args.entry.now (g.P.PlacePaths.paths c.args.at.now p))

pub loop-place-preserved : goal.loop-place-preserved
loop-place-preserved g c =
    next_looked_at (λ q. reaches c.args.entry.now (g.P.PlacePaths.paths c.args.at.now q)) c.args.places.now c.loop-place.place-index c.args.found.now c.loop-place.found c.add_if.new.found c.loop-place-test.true c.loop-place.invariant c.in_ok-add_if.ensures

pub returns : goal.returns
returns g c =
    all_looked_at (λ q. reaches c.args.entry.now (g.P.PlacePaths.paths c.args.at.now q)) c.args.places.now c.loop-place.place-index c.args.found.now c.loop-place.found (omega (arith, c.loop-place-test.false)) c.loop-place.invariant
