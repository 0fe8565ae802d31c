use Rattle.std.proofs.Common.{Some, None, length, sym, ap, ◌∙◌, subst}
use Rattle.checkpoints.specs.Stored.{counts_in, Timeline}
use Rattle.kernel.specs.Kernels.{world_in}
use Rattle.kernel.proofs.Calling.{ok_step}
use Rattle.run_semantics.specs.Run.{wanted}
use Rattle.checkpoint_runs.specs.Kept.{standing_in, supplied_in, waiting_in}
use Rattle.checkpoint_runs.specs.Positions.{last_count, CanGoOn, HasBegun, HasStored}
use Rattle.checkpoint_runs.specs.Running.{parts_in, Advances, IsLiveAtSetup, IsWaiting}
use Rattle.checkpoint_runs.specs.declared.phases.Point.TheVariants.{Position}
use Rattle.checkpoint_runs.specs.declared.phases.Stood.TheVariants as stood
use Rattle.checkpoint_runs.proofs.Advancing.{back_progress, back_waits}
use Rattle.checkpoint_runs.proofs.Counting.{back_stored, kept_counts, last_again, setup_stored, start_stored}
use Rattle.checkpoint_runs.proofs.Filling.{setup_advances}
use Rattle.checkpoint_runs.proofs.Pausing.{first_none}
use Rattle.checkpoint_runs.proofs.Observing.{told_by_on, told_in_progress, until_on, until_there}
use Rattle.checkpoint_runs.specs.Observing.{begins_at, behind_setup}
use Rattle.checkpoint_runs.specs.Positions.{start_of}
use Rattle.run_semantics.specs.Run.{start}
use Rattle.checkpoints.specs.Stored.{counts_of}
use Rattle.checkpoint_runs.proofs.running.Runner.begin.Goals as goal

-- where a run waits it goes back to a position
pub returns-in-Waits-clause-advances : goal.returns-in-Waits-clause-advances
returns-in-Waits-clause-advances g c =
    let b = g.C.Catalogue.behaviour in
    let m = g.M.ModelMarker.answers in
    let old = c.args.self.now in
    let new = c.go_back.new.self in
    let back = rw c.in-Waits.is at c.in_ok-request.ensures.back in
    let still = back.2 in
    let counts = ap counts_in still.positions ∙ kept_counts (Some back.0) old.positions in
    let from = c.last_stored.ensures ∙ ap (λ (t : Timeline _). last_count t.stored) counts ∙ last_again c.args.limit (counts_in old.positions) (Some back.0) back.1 in
    subst (λ o. IsWaiting b m c.args.limit c.args.at None (standing_in (λ b. (g.dyn-1.0.entry b.vtable).1) old) (supplied_in (λ b. (g.dyn-1.0.entry b.vtable).1) old) (counts_in old.positions) (world_in (λ b. (g.dyn-1.0.entry b.vtable).1) new.kernel) (waiting_in (λ b. (g.dyn-1.0.entry b.vtable).1) new) (counts_in new.positions) (record { from = o; at = Position; request = c.in-Waits.request })) (sym from)
    (back_waits b m c.args.limit back.0 c.args.at (standing_in (λ b. (g.dyn-1.0.entry b.vtable).1) old) (supplied_in (λ b. (g.dyn-1.0.entry b.vtable).1) old) (counts_in old.positions) (counts_in new.positions) (world_in (λ b. (g.dyn-1.0.entry b.vtable).1) new.kernel) (waiting_in (λ b. (g.dyn-1.0.entry b.vtable).1) new) c.in-Waits.request back.1 still.wanted still.kept still.none counts)

pub returns-in-Waits-clause-stopped : goal.returns-in-Waits-clause-stopped
returns-in-Waits-clause-stopped g c =
    let b = g.C.Catalogue.behaviour in
    let m = g.M.ModelMarker.answers in
    let back = rw c.in-Waits.is at c.in_ok-request.ensures.back in
    let still = back.2 in
    subst (λ at. HasStored b m c.args.limit None (counts_in c.args.self.now.positions) at (counts_in c.go_back.new.self.positions)) (sym still.stood)
    (back_stored b m c.args.limit back.0 (counts_in c.args.self.now.positions) (counts_in c.go_back.new.self.positions) back.1 still.going
    (ap counts_in still.positions ∙ kept_counts (Some back.0) c.args.self.now.positions))

pub returns-in_err-status-in-Done-Some-clause-stopped : goal.returns-in_err-status-in-Done-Some-clause-stopped
returns-in_err-status-in-Done-Some-clause-stopped g c =
    let b = g.C.Catalogue.behaviour in
    let m = g.M.ModelMarker.answers in
    let before = counts_in c.go_back.new.self.positions in
    let after = counts_in c.run_on.new.self.positions in
    let back = rw (c.in-Done-Some.is, c.in-Done-Some.field-0-is) at c.in_ok-request.ensures.back in
    start_stored b m c.args.limit c.in-Done-Some.start (counts_in c.args.self.now.positions) before c.run_on.new.self.stood after back.0
    (ap counts_in back.1.positions ∙ kept_counts (Some c.in-Done-Some.start) c.args.self.now.positions)
    (subst (λ n. HasBegun b m c.args.limit n before c.run_on.new.self.stood after) back.1.count c.run_on.ensures.stopped)

pub returns-in_ok-status-in-Done-Some-clause-stopped : goal.returns-in_ok-status-in-Done-Some-clause-stopped
returns-in_ok-status-in-Done-Some-clause-stopped g c =
    let b = g.C.Catalogue.behaviour in
    let m = g.M.ModelMarker.answers in
    let before = counts_in c.go_back.new.self.positions in
    let after = counts_in c.run_on.new.self.positions in
    let back = rw (c.in-Done-Some.is, c.in-Done-Some.field-0-is) at c.in_ok-request.ensures.back in
    start_stored b m c.args.limit c.in-Done-Some.start (counts_in c.args.self.now.positions) before c.run_on.new.self.stood after back.0
    (ap counts_in back.1.positions ∙ kept_counts (Some c.in-Done-Some.start) c.args.self.now.positions)
    (subst (λ n. HasBegun b m c.args.limit n before c.run_on.new.self.stood after) back.1.count c.run_on.ensures.stopped)

pub returns-in_ok-status-in-Done-Some-clause-advances : goal.returns-in_ok-status-in-Done-Some-clause-advances
returns-in_ok-status-in-Done-Some-clause-advances g c =
    let b = g.C.Catalogue.behaviour in
    let m = g.M.ModelMarker.answers in
    let old = c.args.self.now in
    let back = rw (c.in-Done-Some.is, c.in-Done-Some.field-0-is) at c.in_ok-request.ensures.back in
    rw (c.progress_of.ensures, c.count.ensures)
    (back_progress b m (λ b. (g.dyn-1.0.entry b.vtable).1) c.args.limit c.in-Done-Some.start c.args.at (standing_in (λ b. (g.dyn-1.0.entry b.vtable).1) old) (supplied_in (λ b. (g.dyn-1.0.entry b.vtable).1) old) (counts_in old.positions) c.go_back.new.self c.run_on.new.self c.in_ok-status-in-Done-Some.status back.0 back.1.needs_none back.1.going back.1.count (ap parts_in back.1.none)
    (ap counts_in back.1.positions ∙ kept_counts (Some c.in-Done-Some.start) old.positions) c.in_ok-status-in-Done-Some.ensures.ran)

pub run_on-requires-clause-going : goal.run_on-requires-clause-going
run_on-requires-clause-going g c = (rw (c.in-Done-Some.is, c.in-Done-Some.field-0-is) at c.in_ok-request.ensures.back).1.going

pub run_on-requires-clause-first : goal.run_on-requires-clause-first
run_on-requires-clause-first g c =
    let back = rw (c.in-Done-Some.is, c.in-Done-Some.field-0-is) at c.in_ok-request.ensures.back in
    first_none g.C.Catalogue.behaviour (wanted g.M.ModelMarker.answers (world_in (λ b. (g.dyn-1.0.entry b.vtable).1) c.go_back.new.self.kernel)) (waiting_in (λ b. (g.dyn-1.0.entry b.vtable).1) c.go_back.new.self) back.1.none

-- what calls show of the modules that are there still
pub run_on-requires-clause-shown : goal.run_on-requires-clause-shown
run_on-requires-clause-shown g c =
    let back = rw (c.in-Done-Some.is, c.in-Done-Some.field-0-is) at c.in_ok-request.ensures.back in
    let before = (world_in (λ b. (g.dyn-1.0.entry b.vtable).1) c.args.self.now.kernel).records in
    let now = (world_in (λ b. (g.dyn-1.0.entry b.vtable).1) c.go_back.new.self.kernel).records in
    c.keep_shown.ensures g.M.ModelMarker.answers before now (ap length (sym c.records-modules.ensures.records)) (ap length (sym c.records.ensures.records)) back.1.records c.requires.shown

-- a run that begins with setup
pub returns-in-Done-None-clause-stopped : goal.returns-in-Done-None-clause-stopped
returns-in-Done-None-clause-stopped g c =
    let back = rw (c.in-Done-None.is, c.in-Done-None.field-0-is) at c.in_ok-request.ensures.back in
    setup_stored g.C.Catalogue.behaviour g.M.ModelMarker.answers c.args.limit (counts_in c.args.self.now.positions) (counts_in c.clear.new.self) c.run_from_setup.new.self.stood (counts_in c.run_from_setup.new.self.positions) back.0
    (rw back.1 at (ap counts_in c.clear.ensures))
    c.run_from_setup.ensures.stopped

pub run_from_setup-requires-clause-live : goal.run_from_setup-requires-clause-live
run_from_setup-requires-clause-live g c =
    let back = rw (c.in-Done-None.is, c.in-Done-None.field-0-is) at c.in_ok-request.ensures.back in
    subst (λ r. IsLiveAtSetup g.C.Catalogue.behaviour g.M.ModelMarker.answers (world_in (λ b. (g.dyn-1.0.entry b.vtable).1) r.kernel) (waiting_in (λ b. (g.dyn-1.0.entry b.vtable).1) r) c.args.at) (sym back.1) c.requires.live

pub returns-in-Done-None-clause-advances : goal.returns-in-Done-None-clause-advances
returns-in-Done-None-clause-advances g c =
    let b = g.C.Catalogue.behaviour in
    let m = g.M.ModelMarker.answers in
    let back = rw (c.in-Done-None.is, c.in-Done-None.field-0-is) at c.in_ok-request.ensures.back in
    let old = counts_in c.args.self.now.positions in
    let cleared = counts_in c.clear.new.self in
    let w = world_in (λ b. (g.dyn-1.0.entry b.vtable).1) c.run_from_setup.new.self.kernel in
    let xs = waiting_in (λ b. (g.dyn-1.0.entry b.vtable).1) c.run_from_setup.new.self in
    let new = counts_in c.run_from_setup.new.self.positions in
    ok_step c.run_from_setup.result c.run_from_setup.ensures.advances (λ progress h.
    setup_advances b m c.args.limit c.args.at (standing_in (λ b. (g.dyn-1.0.entry b.vtable).1) c.args.self.now) (supplied_in (λ b. (g.dyn-1.0.entry b.vtable).1) c.args.self.now) old cleared w xs new progress back.0 (rw back.1 at (ap counts_in c.clear.ensures))
    (subst (λ r. Advances b m c.args.limit c.args.at None (standing_in (λ b. (g.dyn-1.0.entry b.vtable).1) r) (supplied_in (λ b. (g.dyn-1.0.entry b.vtable).1) r) cleared w xs new progress) back.1 h))

-- ---- what is told of it

pub returns-in_err-request-clause-until : goal.returns-in_err-request-clause-until
returns-in_err-request-clause-until g c =
    let b = g.C.Catalogue.behaviour in
    let m = g.M.ModelMarker.answers in
    let on = begins_at b m (start_of c.args.limit (counts_of c.args.self.now.positions.stored)) in
    let back = c.in_err-request.ensures.stood in
    until_there b m c.args.limit back.0 on g.W.Observer.told c.args.observer.now c.go_back.new.self.stood (ap (begins_at b m) back.1) back.2

pub returns-in-Waits-clause-until : goal.returns-in-Waits-clause-until
returns-in-Waits-clause-until g c =
    let b = g.C.Catalogue.behaviour in
    let m = g.M.ModelMarker.answers in
    let on = begins_at b m (start_of c.args.limit (counts_of c.args.self.now.positions.stored)) in
    let back = rw c.in-Waits.is at c.in_ok-request.ensures.back in
    until_there b m c.args.limit back.0 on g.W.Observer.told c.args.observer.now c.go_back.new.self.stood (ap (begins_at b m) back.1) back.2.stood

pub returns-in_err-status-in-Done-Some-clause-until : goal.returns-in_err-status-in-Done-Some-clause-until
returns-in_err-status-in-Done-Some-clause-until g c =
    let b = g.C.Catalogue.behaviour in
    let m = g.M.ModelMarker.answers in
    let on = begins_at b m (start_of c.args.limit (counts_of c.args.self.now.positions.stored)) in
    let back = rw (c.in-Done-Some.is, c.in-Done-Some.field-0-is) at c.in_ok-request.ensures.back in
    let there = Some (world_in (λ b. (g.dyn-1.0.entry b.vtable).1) c.go_back.new.self.kernel).count in
    let here = ap (begins_at b m) back.0 ∙ ap Some (sym back.1.count) in
    until_on b m c.args.limit on there g.W.Observer.told c.args.observer.now c.run_on.new.observer c.run_on.new.self.stood here c.run_on.ensures.until

pub returns-in_ok-status-in-Done-Some-clause-until : goal.returns-in_ok-status-in-Done-Some-clause-until
returns-in_ok-status-in-Done-Some-clause-until g c =
    let b = g.C.Catalogue.behaviour in
    let m = g.M.ModelMarker.answers in
    let on = begins_at b m (start_of c.args.limit (counts_of c.args.self.now.positions.stored)) in
    let back = rw (c.in-Done-Some.is, c.in-Done-Some.field-0-is) at c.in_ok-request.ensures.back in
    let there = Some (world_in (λ b. (g.dyn-1.0.entry b.vtable).1) c.go_back.new.self.kernel).count in
    let here = ap (begins_at b m) back.0 ∙ ap Some (sym back.1.count) in
    until_on b m c.args.limit on there g.W.Observer.told c.args.observer.now c.run_on.new.observer c.run_on.new.self.stood here c.run_on.ensures.until

pub returns-in_ok-status-in-Done-Some-clause-told : goal.returns-in_ok-status-in-Done-Some-clause-told
returns-in_ok-status-in-Done-Some-clause-told g c =
    let b = g.C.Catalogue.behaviour in
    let m = g.M.ModelMarker.answers in
    let on = begins_at b m (start_of c.args.limit (counts_of c.args.self.now.positions.stored)) in
    let back = rw (c.in-Done-Some.is, c.in-Done-Some.field-0-is) at c.in_ok-request.ensures.back in
    let there = Some (world_in (λ b. (g.dyn-1.0.entry b.vtable).1) c.go_back.new.self.kernel).count in
    let here = ap (begins_at b m) back.0 ∙ ap Some (sym back.1.count) in
    rw (c.progress_of.ensures, c.count.ensures)
    (told_in_progress b m c.args.limit (world_in (λ b. (g.dyn-1.0.entry b.vtable).1) c.run_on.new.self.kernel).count on there (Some c.in-Done-Some.start) g.W.Observer.told c.args.observer.now c.run_on.new.observer c.in_ok-status-in-Done-Some.status here c.in_ok-status-in-Done-Some.ensures.told)

pub returns-in-Done-None-clause-until : goal.returns-in-Done-None-clause-until
returns-in-Done-None-clause-until g c =
    let b = g.C.Catalogue.behaviour in
    let m = g.M.ModelMarker.answers in
    let on = begins_at b m (start_of c.args.limit (counts_of c.args.self.now.positions.stored)) in
    let back = rw (c.in-Done-None.is, c.in-Done-None.field-0-is) at c.in_ok-request.ensures.back in
    until_on b m c.args.limit on (behind_setup (start b m)) g.W.Observer.told c.args.observer.now c.run_from_setup.new.observer c.run_from_setup.new.self.stood (ap (begins_at b m) back.0) c.run_from_setup.ensures.until

pub returns-in-Done-None-clause-told : goal.returns-in-Done-None-clause-told
returns-in-Done-None-clause-told g c =
    let b = g.C.Catalogue.behaviour in
    let m = g.M.ModelMarker.answers in
    let on = begins_at b m (start_of c.args.limit (counts_of c.args.self.now.positions.stored)) in
    let back = rw (c.in-Done-None.is, c.in-Done-None.field-0-is) at c.in_ok-request.ensures.back in
    ok_step c.run_from_setup.result c.run_from_setup.ensures.told (λ progress h.
    told_by_on b m c.args.limit on (behind_setup (start b m)) g.W.Observer.told c.args.observer.now c.run_from_setup.new.observer progress (ap (begins_at b m) back.0) h)
