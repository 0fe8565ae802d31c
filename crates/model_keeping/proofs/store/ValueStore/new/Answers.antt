use Rattle.std.proofs.Common.{arith}
use Rattle.model_keeping.specs.Paths.{path_of_place}
use Rattle.place_index.specs.Listed.{under_of}
use Rattle.model_keeping.proofs.Storing.{all_listed, none_listed, one_listed}
use Rattle.model_keeping.proofs.store.ValueStore.new.Goals as goal

pub loop-place-init : goal.loop-place-init
loop-place-init c = none_listed (path_of_place c.args.kept.entries) (under_of c.new-index.result)

pub loop-place-preserved : goal.loop-place-preserved
loop-place-preserved c = one_listed (path_of_place c.args.kept.entries) c.loop-place.place (under_of c.loop-place.index) (under_of c.list_place.new.index) c.loop-place.invariant c.list_place.ensures.more c.in_ok-list_place.ensures.own

pub invariant_of-result : goal.invariant_of-result
invariant_of-result c = record { listed = all_listed c.args.kept.entries c.loop-place.place (under_of c.loop-place.index) (omega (arith, c.loop-place-test.false)) c.loop-place.invariant }
