use Rattle.std.proofs.Common.{option_map, ◌∙◌}
use Rattle.kernel.specs.Kernels.{boxes_in, world_in}
use Rattle.checkpoint_runs.specs.Kept.{waiting_in}
use Rattle.edit_session.specs.Sessions.{completed_of}
use Rattle.edit_session.proofs.Boxes.{wanted_back_at, wanted_setup_at, wanted_start_at, waits_first, waits_unstarted}
use Rattle.edit_session.proofs.session.Session.wanted_id.Goals as goal

pub missing_id-requires-clause-unstarted : goal.missing_id-requires-clause-unstarted
missing_id-requires-clause-unstarted g c =
    let now = c.args.self.now in
    waits_unstarted g.C.Catalogue.behaviour (boxes_in (λ b. (g.dyn-1.0.entry b.vtable).1) now.runner.kernel) (waiting_in (λ b. (g.dyn-1.0.entry b.vtable).1) now.runner) (world_in (λ b. (g.dyn-1.0.entry b.vtable).1) now.runner.kernel) now.model now.phase _ _ (option_map completed_of now.done) now.known now.runner.positions
    c.in-Waiting-default-Setup.is (rw c.in-Waiting-default-Setup.is at c.in-Waiting-default-Setup.field-1-is) c.requires.sound.kept

pub missing_id-requires-clause-first : goal.missing_id-requires-clause-first
missing_id-requires-clause-first g c =
    let now = c.args.self.now in
    waits_first g.C.Catalogue.behaviour (boxes_in (λ b. (g.dyn-1.0.entry b.vtable).1) now.runner.kernel) (waiting_in (λ b. (g.dyn-1.0.entry b.vtable).1) now.runner) (world_in (λ b. (g.dyn-1.0.entry b.vtable).1) now.runner.kernel) now.model now.phase _ _ (option_map completed_of now.done) now.known now.runner.positions
    c.in-Waiting-default-Setup.is (rw c.in-Waiting-default-Setup.is at c.in-Waiting-default-Setup.field-1-is) c.requires.sound.kept

pub returns-in-Waiting-default-Setup : goal.returns-in-Waiting-default-Setup
returns-in-Waiting-default-Setup g c =
    let now = c.args.self.now in
    c.missing_id.ensures ∙ wanted_setup_at g.C.Catalogue.behaviour (boxes_in (λ b. (g.dyn-1.0.entry b.vtable).1) now.runner.kernel) (waiting_in (λ b. (g.dyn-1.0.entry b.vtable).1) now.runner) (world_in (λ b. (g.dyn-1.0.entry b.vtable).1) now.runner.kernel) now.model now.phase _ _ (option_map completed_of now.done) now.known now.runner.positions
    c.in-Waiting-default-Setup.is (rw c.in-Waiting-default-Setup.is at c.in-Waiting-default-Setup.field-1-is) c.requires.sound.kept

pub returns-in-Waiting-default-Position : goal.returns-in-Waiting-default-Position
returns-in-Waiting-default-Position g c =
    let now = c.args.self.now in
    c.lacking_id.ensures ∙ wanted_back_at g.C.Catalogue.behaviour (boxes_in (λ b. (g.dyn-1.0.entry b.vtable).1) now.runner.kernel) (waiting_in (λ b. (g.dyn-1.0.entry b.vtable).1) now.runner) (world_in (λ b. (g.dyn-1.0.entry b.vtable).1) now.runner.kernel) now.model now.phase _ _ (option_map completed_of now.done) now.known now.runner.positions
    c.in-Waiting-default-Position.is (rw c.in-Waiting-default-Position.is at c.in-Waiting-default-Position.field-1-is) c.requires.sound.kept

pub returns-in-Waiting-default-Start : goal.returns-in-Waiting-default-Start
returns-in-Waiting-default-Start g c =
    let now = c.args.self.now in
    c.asked_at_start.ensures ∙ wanted_start_at g.C.Catalogue.behaviour (boxes_in (λ b. (g.dyn-1.0.entry b.vtable).1) now.runner.kernel) (waiting_in (λ b. (g.dyn-1.0.entry b.vtable).1) now.runner) (world_in (λ b. (g.dyn-1.0.entry b.vtable).1) now.runner.kernel) now.model now.phase _ _ _ _ (option_map completed_of now.done) now.known now.runner.positions
    c.in-Waiting-default-Start.is (rw c.in-Waiting-default-Start.is at c.in-Waiting-default-Start.field-1-is) c.requires.sound.kept
