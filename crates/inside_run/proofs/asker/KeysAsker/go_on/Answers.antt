use Rattle.std.proofs.Common.{◌+◌, ◌≤◌, subst}
use Rattle.param_engine.specs.Turns.{asks}
use Rattle.inside_run.specs.declared.progress.KeyProgress.{KeyProgress}
use Rattle.inside_run.specs.Weights.{weight}
use Rattle.inside_run.proofs.asker.KeysAsker.go_on.Goals as goal

pub returns-clause-less : goal.returns-clause-less
returns-clause-less g c =
    let s = g.S.ModuleSource.setting c.args.evaluation.now.scene.now in
    subst (λ (p : KeyProgress). asks c.in_ok-progress.turn + weight s c.in_ok-progress.progress ≤ weight s p) c.replace-progress.ensures.value
    (c.in_ok-progress.ensures.costs s _ c.proceed.ensures.costs)
