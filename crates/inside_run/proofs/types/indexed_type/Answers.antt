use Rattle.std.proofs.Common.{arith}
use Rattle.inside_run.proofs.Moves.{costs_more}
use Rattle.inside_run.proofs.types.indexed_type.Goals as goal

pub returns-clause-costs : goal.returns-clause-costs
returns-clause-costs g c =
    let s = g.S.ModuleSource.setting c.args.scene.now in
    costs_more s c.single_type.result _ _ (omega arith) c.single_type.ensures.costs
