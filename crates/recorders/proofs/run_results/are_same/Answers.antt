use Rattle.std.proofs.lemmas.Slice.Eq.{slice_eq-Decides}
use Rattle.std.specs.Cmp.{booleans_Decides}
use Rattle.recorders.proofs.run_results.are_same.Goals as goal

pub returns : goal.returns
returns c = (slice_eq-Decides booleans_Decides c.args.one.now c.args.other.now c.eq.result c.eq.ensures).0
