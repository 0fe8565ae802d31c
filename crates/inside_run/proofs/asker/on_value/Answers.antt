use Rattle.std.proofs.Common.{sym, subst}
use Rattle.inside_run.specs.declared.progress.Carrying.{Carrying}
use Rattle.inside_run.specs.declared.progress.Posing.{Posing}
use Rattle.inside_run.specs.declared.progress.KeyProgress.{KeyProgress}
use Rattle.inside_run.specs.declared.progress.KeyProgress.TheVariants as waits
use Rattle.inside_run.specs.declared.progress.Walking.{Walking}
use Rattle.inside_run.specs.Runs.{load_of}
use Rattle.inside_run.specs.Weights.{Costs, weight}
use Rattle.inside_run.proofs.asker.on_value.Goals as goal

pub returns-in-Condition-clause-costs : goal.returns-in-Condition-clause-costs
returns-in-Condition-clause-costs g c =
    let s = g.S.ModuleSource.setting c.args.scene.now in
    subst (λ (p : KeyProgress). Costs s (weight s p) c.held.result) (sym c.in-Condition.is) (c.held.ensures.costs s)

pub returns-in-VectorSize-clause-costs : goal.returns-in-VectorSize-clause-costs
returns-in-VectorSize-clause-costs g c =
    let s = g.S.ModuleSource.setting c.args.scene.now in
    subst (λ (p : KeyProgress). Costs s (weight s p) c.sized.result) (sym c.in-VectorSize.is) (c.sized.ensures.costs s)

pub returns-in-Posed-clause-costs : goal.returns-in-Posed-clause-costs
returns-in-Posed-clause-costs g c =
    let s = g.S.ModuleSource.setting c.args.scene.now in
    subst (λ (p : KeyProgress). Costs s (weight s p) c.go_on_posed.result) (sym c.in-Posed.is)
    (subst (λ (w : Posing). Costs s (weight s (waits.Posed w)) c.go_on_posed.result) c.into_inner.ensures (c.go_on_posed.ensures.costs s))

pub returns-in-Carried-clause-costs : goal.returns-in-Carried-clause-costs
returns-in-Carried-clause-costs g c =
    let s = g.S.ModuleSource.setting c.args.scene.now in
    subst (λ (p : KeyProgress). Costs s (weight s p) c.go_on_carrier.result) (sym c.in-Carried.is)
    (subst (λ (w : Carrying). Costs s (weight s (waits.Carried w)) c.go_on_carrier.result) c.into_inner-in-Carried.ensures (c.go_on_carrier.ensures.costs s))

pub returns-in-Inside-clause-costs : goal.returns-in-Inside-clause-costs
returns-in-Inside-clause-costs g c =
    let s = g.S.ModuleSource.setting c.args.scene.now in
    subst (λ (p : KeyProgress). Costs s (weight s p) c.go_on_inside.result) (sym c.in-Inside.is)
    (subst (λ (w : Walking). Costs s (load_of w.ground w.doing w.tasks w.state) c.go_on_inside.result) c.into_inner-in-Inside.ensures (c.go_on_inside.ensures.costs s))
