use Rattle.std.proofs.Common.{sym, subst}
use Rattle.ned_trees.specs.declared.declarations.TypeDeclaration.{TypeDeclaration}
use Rattle.ned_types.specs.WellFormed.{HaveOwnNames}
use Rattle.model_settings.proofs.Once.{among_at}
use Rattle.model_settings.proofs.tables.submodules_of_types.Goals as goal

pub submodule_names-requires : goal.submodule_names-requires
submodule_names-requires c =
    subst (λ (t : TypeDeclaration). HaveOwnNames t.submodules) (sym c.declared-item.is)
    (c.requires.submodules _ (among_at c.args.types.now c.loop-declared.declared-index c.declared-item.result c.loop-declared-test.true))
