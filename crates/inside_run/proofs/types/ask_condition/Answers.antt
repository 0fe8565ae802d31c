use Rattle.std.proofs.Common.{ap, ◌∙◌, List, ℕ}
use Rattle.inside_keys.specs.declared.key.What.TheVariants as what
use Rattle.inside_keys.specs.Keys.{key}
use Rattle.inside_run.proofs.Asked.{condition_asked}
use Rattle.inside_run.proofs.types.ask_condition.Goals as goal

pub returns-clause-moves : goal.returns-clause-moves
returns-clause-moves g c =
    let s = g.S.ModuleSource.setting c.args._scene.now in
    condition_asked s c.in_ok-asked.asked _ c.in_ok-child.child c.args.site.now c.in_ok-parent.parent c.args.around.now c.args.declared c.args.submodule
    (c.in_ok-asked.ensures ∙ ap (λ (x : List ℕ). key c.args.around.now (what.Condition x)) c.in_ok-name.ensures)
    c.in_ok-child.ensures c.in_ok-parent.ensures
