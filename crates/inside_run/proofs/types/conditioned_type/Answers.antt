use Rattle.std.proofs.Common.{arith, ◌+◌}
use Rattle.inside_run.specs.Weights.{choice_weight}
use Rattle.inside_run.proofs.Moves.{costs_more}
use Rattle.inside_run.proofs.types.conditioned_type.Goals as goal

pub returns-else-is_some-clause-costs : goal.returns-else-is_some-clause-costs
returns-else-is_some-clause-costs g c =
    let s = g.S.ModuleSource.setting c.args.scene.now in
    costs_more s c.indexed_type.result (1 + choice_weight s c.args.site.now c.args.submodule.now.submodule_type) _ (omega arith) c.indexed_type.ensures.costs
