use Rattle.std.proofs.Common.{None, refl, sym, ap, ◌∙◌, subst}
use Rattle.checkpoints.specs.Stored.{counts_in, IsBegun}
use Rattle.kernel.specs.Kernels.{world_in}
use Rattle.checkpoint_runs.specs.Kept.{standing_in, supplied_in, waiting_in}
use Rattle.checkpoint_runs.specs.Running.{progress_of, Advances}
use Rattle.checkpoint_runs.proofs.Advancing.{setup_over, setup_waits, started_progress}
use Rattle.checkpoint_runs.proofs.Counting.{begun_start, none_stored}
use Rattle.checkpoint_runs.proofs.Observing.{on_nothing, told_in_progress, told_nothing, until_before}
use Rattle.checkpoint_runs.specs.Observing.{behind_setup, last_told}
use Rattle.run_semantics.specs.Run.{start}
use Rattle.checkpoint_runs.proofs.running.Runner.run_from_setup.Goals as goal

pub returns-in-Done-Some-clause-advances : goal.returns-in-Done-Some-clause-advances
returns-in-Done-Some-clause-advances g c =
    let b = g.C.Catalogue.behaviour in
    let m = g.M.ModelMarker.answers in
    let old = c.args.self.now in
    let new = c.stand.new.self in
    let stands = rw (c.in-Done-Some.is, c.in-Done-Some.field-0-is) at c.in_ok-outcome.ensures.stands in
    setup_over b m c.args.limit c.args.at (standing_in (λ b. (g.dyn-1.0.entry b.vtable).1) old) (supplied_in (λ b. (g.dyn-1.0.entry b.vtable).1) old) old.positions new.positions (world_in (λ b. (g.dyn-1.0.entry b.vtable).1) new.kernel) (waiting_in (λ b. (g.dyn-1.0.entry b.vtable).1) new) c.in-Done-Some.outcome (sym (begun_start c.args.limit old.positions c.requires.none)) (rw c.in-Done-Some.is at c.in_ok-outcome.ensures.wants) stands.0 stands.2 c.requires.none c.stand.ensures.kept.0

pub returns-in-Waits-clause-advances : goal.returns-in-Waits-clause-advances
returns-in-Waits-clause-advances g c =
    let b = g.C.Catalogue.behaviour in
    let m = g.M.ModelMarker.answers in
    let old = c.args.self.now in
    let new = c.stand.new.self in
    let stands = rw c.in-Waits.is at c.in_ok-outcome.ensures.stands in
    setup_waits b m c.args.limit c.args.at (standing_in (λ b. (g.dyn-1.0.entry b.vtable).1) old) (supplied_in (λ b. (g.dyn-1.0.entry b.vtable).1) old) (counts_in old.positions) (counts_in new.positions) (world_in (λ b. (g.dyn-1.0.entry b.vtable).1) new.kernel) (waiting_in (λ b. (g.dyn-1.0.entry b.vtable).1) new) c.in-Waits.request (sym (begun_start c.args.limit old.positions c.requires.none)) (rw c.in-Waits.is at c.in_ok-outcome.ensures.wants) stands.0 stands.2
    (ap counts_in (c.stand.ensures.kept.0 ∙ c.requires.none))

pub returns-in-Done-Some-clause-stopped : goal.returns-in-Done-Some-clause-stopped
returns-in-Done-Some-clause-stopped g c =
    none_stored g.C.Catalogue.behaviour g.M.ModelMarker.answers c.args.limit c.stand.new.self.stood c.args.self.now.positions c.stand.new.self.positions (c.stand.ensures.kept.1 ∙ c.requires.stood)
    c.requires.none c.stand.ensures.kept.0

pub returns-in-Waits-clause-stopped : goal.returns-in-Waits-clause-stopped
returns-in-Waits-clause-stopped g c =
    none_stored g.C.Catalogue.behaviour g.M.ModelMarker.answers c.args.limit c.stand.new.self.stood c.args.self.now.positions c.stand.new.self.positions (c.stand.ensures.kept.1 ∙ c.requires.stood)
    c.requires.none c.stand.ensures.kept.0

pub returns-in_err-outcome-clause-stopped : goal.returns-in_err-outcome-clause-stopped
returns-in_err-outcome-clause-stopped g c =
    none_stored g.C.Catalogue.behaviour g.M.ModelMarker.answers c.args.limit c.stand.new.self.stood c.args.self.now.positions c.stand.new.self.positions (c.stand.ensures.kept.1 ∙ c.requires.stood)
    c.requires.none c.stand.ensures.kept.0

pub returns-in_ok-status-in-Done-None-clause-advances : goal.returns-in_ok-status-in-Done-None-clause-advances
returns-in_ok-status-in-Done-None-clause-advances g c =
    let b = g.C.Catalogue.behaviour in
    let m = g.M.ModelMarker.answers in
    let old = c.args.self.now in
    let new = c.run_to_end.new.self in
    let status = c.in_ok-status-in-Done-None.status in
    let h = started_progress b m (λ b. (g.dyn-1.0.entry b.vtable).1) c.args.limit c.args.at (standing_in (λ b. (g.dyn-1.0.entry b.vtable).1) old) (supplied_in (λ b. (g.dyn-1.0.entry b.vtable).1) old) (counts_in c.stand.new.self.positions) new status (sym (begun_start c.args.limit c.stand.new.self.positions (subst (λ t. IsBegun t) (sym c.stand.ensures.kept.0) c.requires.none))) (rw c.in-Done-None.is at c.in_ok-outcome.ensures.wants) c.in_ok-status-in-Done-None.ensures.ran in
    rw (c.progress_of.ensures, c.count.ensures)
    (subst (λ t. Advances b m c.args.limit c.args.at None (standing_in (λ b. (g.dyn-1.0.entry b.vtable).1) old) (supplied_in (λ b. (g.dyn-1.0.entry b.vtable).1) old) (counts_in t) (world_in (λ b. (g.dyn-1.0.entry b.vtable).1) new.kernel) (waiting_in (λ b. (g.dyn-1.0.entry b.vtable).1) new) (counts_in new.positions) (progress_of None (world_in (λ b. (g.dyn-1.0.entry b.vtable).1) new.kernel).count status)) c.stand.ensures.kept.0 h)

-- ---- what is told of it

pub returns-in_err-outcome-clause-until : goal.returns-in_err-outcome-clause-until
returns-in_err-outcome-clause-until g c =
    let b = g.C.Catalogue.behaviour in
    let m = g.M.ModelMarker.answers in
    until_before b m c.args.limit (behind_setup (start b m)) g.W.Observer.told c.args.observer.now c.stand.new.self.stood (c.stand.ensures.kept.1 ∙ c.requires.stood)

pub returns-in-Waits-clause-until : goal.returns-in-Waits-clause-until
returns-in-Waits-clause-until g c =
    let b = g.C.Catalogue.behaviour in
    let m = g.M.ModelMarker.answers in
    until_before b m c.args.limit (behind_setup (start b m)) g.W.Observer.told c.args.observer.now c.stand.new.self.stood (c.stand.ensures.kept.1 ∙ c.requires.stood)

pub returns-in-Done-Some-clause-until : goal.returns-in-Done-Some-clause-until
returns-in-Done-Some-clause-until g c =
    let b = g.C.Catalogue.behaviour in
    let m = g.M.ModelMarker.answers in
    until_before b m c.args.limit (behind_setup (start b m)) g.W.Observer.told c.args.observer.now c.stand.new.self.stood (c.stand.ensures.kept.1 ∙ c.requires.stood)

pub returns-in-Done-Some-clause-told : goal.returns-in-Done-Some-clause-told
returns-in-Done-Some-clause-told g c =
    let b = g.C.Catalogue.behaviour in
    let m = g.M.ModelMarker.answers in
    let stands = rw (c.in-Done-Some.is, c.in-Done-Some.field-0-is) at c.in_ok-outcome.ensures.stands in
    told_nothing b m c.args.limit (last_told b m c.args.limit) (behind_setup (start b m)) g.W.Observer.told c.args.observer.now (on_nothing b m (world_in (λ b. (g.dyn-1.0.entry b.vtable).1) c.stand.new.self.kernel) c.in-Done-Some.outcome stands.0)

pub returns-in_ok-status-in-Done-None-clause-told : goal.returns-in_ok-status-in-Done-None-clause-told
returns-in_ok-status-in-Done-None-clause-told g c =
    let b = g.C.Catalogue.behaviour in
    let m = g.M.ModelMarker.answers in
    rw (c.progress_of.ensures, c.count.ensures)
    (told_in_progress b m c.args.limit (world_in (λ b. (g.dyn-1.0.entry b.vtable).1) c.run_to_end.new.self.kernel).count (behind_setup (start b m)) (behind_setup (start b m)) None g.W.Observer.told c.args.observer.now c.run_to_end.new.observer c.in_ok-status-in-Done-None.status refl c.in_ok-status-in-Done-None.ensures.told)
