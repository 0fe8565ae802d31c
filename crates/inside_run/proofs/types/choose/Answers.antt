use Rattle.std.proofs.Common.{[], Ok, sym, subst}
use Rattle.param_eval.specs.Evaluating as evaluating
use Rattle.inside_keys.specs.Asked.{valued_then}
use Rattle.inside_keys.specs.Places.{meant_under}
use Rattle.inside_keys.specs.Values.{type_told}
use Rattle.inside_run.specs.Going.{Moves}
use Rattle.inside_run.specs.declared.progress.Choosing.{Choosing}
use Rattle.inside_run.specs.declared.progress.Moved.TheVariants as moved
use Rattle.inside_run.specs.declared.progress.KeyProgress.TheVariants as waits
use Rattle.inside_run.proofs.Moves.{reached_fault, reached_key, reached_value}
use Rattle.inside_run.proofs.types.choose.Goals as goal

pub returns-in-Ok-Value-clause-moves : goal.returns-in-Ok-Value-clause-moves
returns-in-Ok-Value-clause-moves g c =
    let s = g.S.ModuleSource.setting c.args.scene.now in
    reached_value s c.told.result (meant_under [] c.args.place) c.in-Ok-Value.field-0 c.reach.new.evaluation _ (type_told s c.args.declared.now c.args.parametric.now c.args.body.now) c.in-Ok-Value.value
    c.in-Ok-Value.field-0-is c.in-Ok-Value.ensures.reaches c.told.ensures.moves

pub returns-in-Ok-Key-clause-moves : goal.returns-in-Ok-Key-clause-moves
returns-in-Ok-Key-clause-moves g c =
    let s = g.S.ModuleSource.setting c.args.scene.now in
    subst (λ (w : Choosing). Moves s (Ok (moved.Asks c.in-Ok-Key.key (waits.Chosen w))) (valued_then (meant_under [] c.args.place) (evaluating.came_to c.args.evaluation c.args.turn) (type_told s c.args.declared.now c.args.parametric.now c.args.body.now))) (sym c.in_ok-new-in-Ok-Key.ensures)
    (reached_key (meant_under [] c.args.place) c.in-Ok-Key.field-0 c.reach.new.evaluation _ (type_told s c.args.declared.now c.args.parametric.now c.args.body.now) c.in-Ok-Key.key
    c.in-Ok-Key.field-0-is c.in-Ok-Key.ensures.reaches)

pub returns-clause-moves : goal.returns-clause-moves
returns-clause-moves g c =
    let s = g.S.ModuleSource.setting c.args.scene.now in
    reached_fault s c.in-Err.stop (meant_under [] c.args.place) c.reach.new.evaluation _ (type_told s c.args.declared.now c.args.parametric.now c.args.body.now) c.in-Err.ensures.reaches
