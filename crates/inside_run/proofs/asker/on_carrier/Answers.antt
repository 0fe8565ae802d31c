use Rattle.std.proofs.Common.{sym, subst}
use Rattle.inside_run.specs.declared.progress.KeyProgress.{KeyProgress}
use Rattle.inside_run.specs.declared.progress.Walking.{Walking}
use Rattle.inside_run.specs.Runs.{load_of}
use Rattle.inside_run.specs.Weights.{Costs, weight}
use Rattle.inside_run.proofs.asker.on_carrier.Goals as goal

pub returns-in-Inside-clause-costs : goal.returns-in-Inside-clause-costs
returns-in-Inside-clause-costs g c =
    let s = g.S.ModuleSource.setting c.args._scene.now in
    subst (λ (p : KeyProgress). Costs s (weight s p) c.carried_inside.result) (sym c.in-Inside.is)
    (subst (λ (w : Walking). Costs s (load_of w.ground w.doing w.tasks w.state) c.carried_inside.result) c.into_inner.ensures (c.carried_inside.ensures.costs s))
