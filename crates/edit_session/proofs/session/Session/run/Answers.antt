use Rattle.std.proofs.Common.{option_map, sym, ap, ◌∙◌, subst}
use Rattle.std.proofs.Math.Facts.{Fits-lt-pow}
use Rattle.model_answers.specs.Answering.{answers_of}
use Rattle.checkpoints.specs.Stored.{counts_in}
use Rattle.kernel.specs.Kernels.{boxes_in, world_in}
use Rattle.checkpoint_runs.specs.Kept.{waiting_in}
use Rattle.checkpoint_runs.specs.Running.{resumed}
use Rattle.edit_session.proofs.GivenUp.{leaves_given_up, stores_given_up}
use Rattle.edit_session.proofs.Leaving.{given_up_stored, kept_starts}
use Rattle.checkpoint_runs.specs.Observing.{IsTold}
use Rattle.edit_session.specs.Editing.{went_on_in, Editing}
use Rattle.edit_session.specs.Sessions.{completed_of, editing_of}
use Rattle.edit_session.proofs.session.Session.run.Goals as goal

pub drop_run-requires-clause-stored : goal.drop_run-requires-clause-stored
drop_run-requires-clause-stored g c =
    let b = g.C.Catalogue.behaviour in
    let old = c.args.self.now in
    let left = c.run_through.new.self.runner in
    let starts =
    kept_starts b (boxes_in (λ b. (g.dyn-1.0.entry b.vtable).1) old.runner.kernel) (waiting_in (λ b. (g.dyn-1.0.entry b.vtable).1) old.runner) (world_in (λ b. (g.dyn-1.0.entry b.vtable).1) old.runner.kernel) old.model old.phase (option_map completed_of old.done) old.known old.runner.positions c.args.limit c.requires.sound.kept in
    given_up_stored b (answers_of old.model) c.args.limit (resumed c.args.limit old.phase) left.stood (counts_in old.runner.positions) (counts_in left.positions) (Fits-lt-pow c.ranges.limit) starts c.run_through.ensures.stored

pub returns-in-Err-clause-kept : goal.returns-in-Err-clause-kept
returns-in-Err-clause-kept g c = record { sound = c.drop_run.ensures.sound; model = ap (λ (e : Editing). e.model) c.drop_run.ensures.left ∙ c.run_through.ensures.model }

pub returns-in-Err-clause-memory : goal.returns-in-Err-clause-memory
returns-in-Err-clause-memory g c =
    leaves_given_up g.C.Catalogue.behaviour (editing_of (λ b. (g.dyn-1.0.entry b.vtable).1) c.args.self.now) (editing_of (λ b. (g.dyn-1.0.entry b.vtable).1) c.run_through.new.self) (editing_of (λ b. (g.dyn-1.0.entry b.vtable).1) c.drop_run.new.self) c.args.limit c.run_through.new.self.runner.stood c.drop_run.ensures.left c.run_through.ensures.stored

pub returns-in-Err-clause-stood : goal.returns-in-Err-clause-stood
returns-in-Err-clause-stood g c =
    stores_given_up g.C.Catalogue.behaviour (editing_of (λ b. (g.dyn-1.0.entry b.vtable).1) c.args.self.now) (editing_of (λ b. (g.dyn-1.0.entry b.vtable).1) c.run_through.new.self) (editing_of (λ b. (g.dyn-1.0.entry b.vtable).1) c.drop_run.new.self) c.args.limit c.run_through.new.self.runner.stood c.drop_run.new.self.runner.stood c.drop_run.ensures.stood c.drop_run.ensures.left c.run_through.ensures.stored

pub returns-in-Err-clause-observed_until : goal.returns-in-Err-clause-observed_until
returns-in-Err-clause-observed_until g c =
    let b = g.C.Catalogue.behaviour in
    let old = c.args.self.now in
    subst (λ s. IsTold b (answers_of old.model) c.args.limit (went_on_in b (editing_of (λ b. (g.dyn-1.0.entry b.vtable).1) old) c.args.limit) g.W.Observer.told c.args.observer.now s c.run_through.new.observer) (sym c.drop_run.ensures.stood)
    (rw c.in-Err.is at c.run_through.ensures.observed_until)
