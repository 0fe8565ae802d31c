use Rattle.inside_run.proofs.types.created_found.Goals as goal

pub returns-in-Some-clause-costs : goal.returns-in-Some-clause-costs
returns-in-Some-clause-costs g c = c.type_of_modules.ensures.costs (g.S.ModuleSource.setting c.args.scene.now)
