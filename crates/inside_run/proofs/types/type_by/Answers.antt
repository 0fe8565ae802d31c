use Rattle.std.proofs.Common.{arith, ap, sym, ◌∙◌}
use Rattle.ned_trees.specs.declared.declarations.SubmoduleType.{SubmoduleType}
use Rattle.ned_trees.specs.declared.declarations.TypeDeclaration.{TypeDeclaration}
use Rattle.inside_keys.specs.Values.{text_with, type_by, type_chosen}
use Rattle.inside_run.proofs.Moves.{costs_more, moves_as}
use Rattle.inside_run.proofs.types.type_by.Goals as goal

pub returns-in-Named-clause-costs : goal.returns-in-Named-clause-costs
returns-in-Named-clause-costs g c =
    let s = g.S.ModuleSource.setting c.args.scene.now in
    costs_more s c.numbered.result 0 _ (omega arith) (c.numbered.ensures.costs s)

pub returns-in-Like-clause-moves : goal.returns-in-Like-clause-moves
returns-in-Like-clause-moves g c =
    let s = g.S.ModuleSource.setting c.args.scene.now in
    let l = c.args.submodule.now in
    moves_as s c.begin_chosen.result _ _
    (ap (λ (t : TypeDeclaration). type_chosen s c.args.site.now c.args.around.now t c.in-Like.parametric l.body) c.text_with-text.ensures
    ∙ ap (λ (y : SubmoduleType). type_by s c.args.site.now c.args.around.now (text_with s c.args.declared.now l.name) l.body y) (sym c.in-Like.is))
    c.begin_chosen.ensures.moves
