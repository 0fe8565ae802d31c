use Rattle.inside_walk.specs.declared.task.Ground.{Ground}
use Rattle.inside_run.proofs.Insides.{begun_weighs}
use Rattle.inside_run.proofs.Moves.{costs_as}
use Rattle.inside_run.proofs.inside.begin_inside.Goals as goal

pub returns-clause-costs : goal.returns-clause-costs
returns-clause-costs g c =
    let s = g.S.ModuleSource.setting c.args.scene.now in
    let ground : Ground = record { site = c.args.site; place = c.in_ok-place.place; submodules = c.in-Some.submodules; types = c.types.result; gates = c.gates.result; is_whole = c.args.is_whole } in
    costs_as s c.halted.result _ _ (begun_weighs s ground c.args.declared.now c.types.ensures c.gates.ensures) (c.halted.ensures.costs s _ c.in_ok-halt.ensures.within)
