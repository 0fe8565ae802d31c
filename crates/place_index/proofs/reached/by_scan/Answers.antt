use Rattle.std.proofs.Common.{arith}
use Rattle.place_index.specs.Places.{reaches}
use Rattle.place_index.proofs.Places.{all_found, none_found, one_found}
use Rattle.place_index.proofs.reached.by_scan.Goals as goal

pub loop-place-init : goal.loop-place-init
loop-place-init g c = none_found (λ q. reaches c.args.entry.now (g.P.PlacePaths.paths c.args.at.now q)) _ c.new-found.ensures

pub loop-place-preserved : goal.loop-place-preserved
loop-place-preserved g c = one_found (λ q. reaches c.args.entry.now (g.P.PlacePaths.paths c.args.at.now q)) c.loop-place.place c.loop-place.found c.add_if.new.found c.loop-place.invariant c.in_ok-add_if.ensures

pub returns : goal.returns
returns g c =
    all_found c.args.entry.now (g.P.PlacePaths.paths c.args.at.now) c.count-place-end.result c.loop-place.place c.loop-place.found c.count-place-end.ensures (omega (arith, c.loop-place-test.false, c.loop-place.auto.place-end)) c.loop-place.invariant
