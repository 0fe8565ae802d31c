use Rattle.std.proofs.Common.{sym, ◌∙◌, subst}
use Rattle.checkpoints.specs.Stored.{counts_in}
use Rattle.kernel.specs.Kernels.{world_in}
use Rattle.model_answers.specs.Answering.{answers_of}
use Rattle.checkpoint_runs.specs.Kept.{standing_in, supplied_in, waiting_in}
use Rattle.checkpoint_runs.specs.Running.{at_setup, Advances}
use Rattle.checkpoint_runs.proofs.Advancing.{live_at_setup, resumed_at}
use Rattle.checkpoint_runs.specs.Observing.{told_by, went_on, IsTold}
use Rattle.checkpoint_runs.specs.Telling.{AreTold}
use Rattle.checkpoints.specs.Stored.{counts_of}
use Rattle.checkpoint_runs.proofs.running.Runner.advance.Goals as goal

-- a run that waited goes on
pub go_on-requires-clause-waited : goal.go_on-requires-clause-waited
go_on-requires-clause-waited g c =
    let old = c.args.self.now in
    let h = resumed_at g.C.Catalogue.behaviour (answers_of c.args.model.now) (world_in (λ b. (g.dyn-1.0.entry b.vtable).1) old.kernel) (waiting_in (λ b. (g.dyn-1.0.entry b.vtable).1) old) old.positions.stored c.args.limit c.args.phase c.in-Some.at (sym c.goes_on_at.ensures ∙ c.in-Some.is) c.requires.live c.requires.below in
    record { paused = h.paused; refused = h.refused; within = h.within; below = h.below; began = h.began }

-- any other begins
pub begin-requires-clause-live : goal.begin-requires-clause-live
begin-requires-clause-live g c =
    rw c.at_setup-at.ensures (live_at_setup g.C.Catalogue.behaviour (answers_of c.args.model.now) (world_in (λ b. (g.dyn-1.0.entry b.vtable).1) c.args.self.now.kernel) (waiting_in (λ b. (g.dyn-1.0.entry b.vtable).1) c.args.self.now) c.args.phase c.requires.live)

-- where it went on
pub returns-in_ok-onwards-in-Some-clause-advances : goal.returns-in_ok-onwards-in-Some-clause-advances
returns-in_ok-onwards-in-Some-clause-advances g c =
    let old = c.args.self.now in
    let new = c.go_on.new.self in
    subst (λ r. Advances g.C.Catalogue.behaviour (answers_of c.args.model.now) c.args.limit (at_setup c.args.phase) r (standing_in (λ b. (g.dyn-1.0.entry b.vtable).1) old) (supplied_in (λ b. (g.dyn-1.0.entry b.vtable).1) old) (counts_in old.positions) (world_in (λ b. (g.dyn-1.0.entry b.vtable).1) new.kernel) (waiting_in (λ b. (g.dyn-1.0.entry b.vtable).1) new) (counts_in new.positions) c.in_ok-onwards-in-Some.onwards)
    (sym c.in-Some.is ∙ c.goes_on_at.ensures) (c.in_ok-onwards-in-Some.ensures.advances (at_setup c.args.phase))

-- ---- what is told of it

pub returns-in_err-onwards-in-Some-clause-until : goal.returns-in_err-onwards-in-Some-clause-until
returns-in_err-onwards-in-Some-clause-until g c =
    let b = g.C.Catalogue.behaviour in
    let m = answers_of c.args.model.now in
    let stored = counts_of c.args.self.now.positions.stored in
    subst (λ r. IsTold b m c.args.limit (went_on b m c.args.limit r stored) g.W.Observer.told c.args.observer.now c.go_on.new.self.stood c.go_on.new.observer)
    (sym c.in-Some.is ∙ c.goes_on_at.ensures) c.go_on.ensures.until

pub returns-in_ok-onwards-in-Some-clause-until : goal.returns-in_ok-onwards-in-Some-clause-until
returns-in_ok-onwards-in-Some-clause-until g c =
    let b = g.C.Catalogue.behaviour in
    let m = answers_of c.args.model.now in
    let stored = counts_of c.args.self.now.positions.stored in
    subst (λ r. IsTold b m c.args.limit (went_on b m c.args.limit r stored) g.W.Observer.told c.args.observer.now c.go_on.new.self.stood c.go_on.new.observer)
    (sym c.in-Some.is ∙ c.goes_on_at.ensures) c.go_on.ensures.until

pub returns-in_ok-onwards-in-Some-clause-told : goal.returns-in_ok-onwards-in-Some-clause-told
returns-in_ok-onwards-in-Some-clause-told g c =
    let b = g.C.Catalogue.behaviour in
    let m = answers_of c.args.model.now in
    let stored = counts_of c.args.self.now.positions.stored in
    subst (λ r. AreTold g.W.Observer.told c.args.observer.now (told_by b m c.args.limit (went_on b m c.args.limit r stored) c.in_ok-onwards-in-Some.onwards) c.go_on.new.observer)
    (sym c.in-Some.is ∙ c.goes_on_at.ensures) c.in_ok-onwards-in-Some.ensures.told

pub returns-in_err-anew-in-None-clause-until : goal.returns-in_err-anew-in-None-clause-until
returns-in_err-anew-in-None-clause-until g c =
    let b = g.C.Catalogue.behaviour in
    let m = answers_of c.args.model.now in
    let stored = counts_of c.args.self.now.positions.stored in
    subst (λ r. IsTold b m c.args.limit (went_on b m c.args.limit r stored) g.W.Observer.told c.args.observer.now c.begin.new.self.stood c.begin.new.observer)
    (sym c.in-None.is ∙ c.goes_on_at.ensures) c.begin.ensures.until

pub returns-in_ok-anew-in-None-clause-until : goal.returns-in_ok-anew-in-None-clause-until
returns-in_ok-anew-in-None-clause-until g c =
    let b = g.C.Catalogue.behaviour in
    let m = answers_of c.args.model.now in
    let stored = counts_of c.args.self.now.positions.stored in
    subst (λ r. IsTold b m c.args.limit (went_on b m c.args.limit r stored) g.W.Observer.told c.args.observer.now c.begin.new.self.stood c.begin.new.observer)
    (sym c.in-None.is ∙ c.goes_on_at.ensures) c.begin.ensures.until

pub returns-in_ok-anew-in-None-clause-told : goal.returns-in_ok-anew-in-None-clause-told
returns-in_ok-anew-in-None-clause-told g c =
    let b = g.C.Catalogue.behaviour in
    let m = answers_of c.args.model.now in
    let stored = counts_of c.args.self.now.positions.stored in
    subst (λ r. AreTold g.W.Observer.told c.args.observer.now (told_by b m c.args.limit (went_on b m c.args.limit r stored) c.in_ok-anew-in-None.anew) c.begin.new.observer)
    (sym c.in-None.is ∙ c.goes_on_at.ensures) c.in_ok-anew-in-None.ensures.told
