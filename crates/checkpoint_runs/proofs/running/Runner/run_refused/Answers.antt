use Rattle.std.proofs.Common.{refl, sym, ◌∙◌}
use Rattle.checkpoints.specs.Stored.{counts_in}
use Rattle.kernel.specs.Kernels.{world_in}
use Rattle.checkpoint_runs.specs.Kept.{waiting_in}
use Rattle.checkpoint_runs.proofs.Ends.{refused_left, refused_ran}
use Rattle.checkpoint_runs.proofs.Good.{good_on}
use Rattle.checkpoint_runs.proofs.Pausing.{refused_ends, refused_first}
use Rattle.checkpoint_runs.proofs.running.Runner.run_refused.Goals as goal

pub step_declined-requires-clause-unknown : goal.step_declined-requires-clause-unknown
step_declined-requires-clause-unknown g c =
    refused_first g.C.Catalogue.behaviour g.A.Answers.answers (world_in (λ b. (g.dyn-1.0.entry b.vtable).1) c.args.self.now.kernel) (waiting_in (λ b. (g.dyn-1.0.entry b.vtable).1) c.args.self.now) c.unwrap-request.result c.requires.first c.requires.refused (sym c.in_ok-missing.ensures ∙ c.unwrap-request.ensures)

pub returns-in_err-over-clause-good : goal.returns-in_err-over-clause-good
returns-in_err-over-clause-good g c =
    good_on g.C.Catalogue.behaviour g.A.Answers.answers (world_in (λ b. (g.dyn-1.0.entry b.vtable).1) c.args.self.now.kernel) (world_in (λ b. (g.dyn-1.0.entry b.vtable).1) c.step_declined.new.self) c.args.self.now.positions.stored c.step_declined.ensures.grown c.requires.going.good

pub returns-clause-good : goal.returns-clause-good
returns-clause-good g c =
    let b = g.C.Catalogue.behaviour in
    let m = g.A.Answers.answers in
    good_on b m (world_in (λ b. (g.dyn-1.0.entry b.vtable).1) c.args.self.now.kernel) (world_in (λ b. (g.dyn-1.0.entry b.vtable).1) c.step_declined.new.self) c.args.self.now.positions.stored c.step_declined.ensures.grown c.requires.going.good

pub returns-clause-ran : goal.returns-clause-ran
returns-clause-ran g c =
    let b = g.C.Catalogue.behaviour in
    let m = g.A.Answers.answers in
    let w = world_in (λ b. (g.dyn-1.0.entry b.vtable).1) c.args.self.now.kernel in
    let ends = refused_ends b m w (waiting_in (λ b. (g.dyn-1.0.entry b.vtable).1) c.args.self.now) c.requires.first c.requires.refused in
    refused_ran b m c.args.limit w.count w (world_in (λ b. (g.dyn-1.0.entry b.vtable).1) c.step_declined.new.self) c.in_ok-over.over c.requires.going.going c.requires.within ends c.in_ok-over.ensures.step
    ∙ sym c.outcome_of.ensures

pub returns-clause-left : goal.returns-clause-left
returns-clause-left g c =
    let b = g.C.Catalogue.behaviour in
    let m = g.A.Answers.answers in
    let w = world_in (λ b. (g.dyn-1.0.entry b.vtable).1) c.args.self.now.kernel in
    let ends = refused_ends b m w (waiting_in (λ b. (g.dyn-1.0.entry b.vtable).1) c.args.self.now) c.requires.first c.requires.refused in
    refused_left b m c.args.limit w.count w (world_in (λ b. (g.dyn-1.0.entry b.vtable).1) c.step_declined.new.self) c.in_ok-over.over (counts_in c.args.self.now.positions) (counts_in c.args.self.now.positions) c.requires.going.going c.requires.within ends c.in_ok-over.ensures.step refl

pub returns-clause-stopped : goal.returns-clause-stopped
returns-clause-stopped g c =
    let b = g.C.Catalogue.behaviour in
    let m = g.A.Answers.answers in
    let w = world_in (λ b. (g.dyn-1.0.entry b.vtable).1) c.args.self.now.kernel in
    let ends = refused_ends b m w (waiting_in (λ b. (g.dyn-1.0.entry b.vtable).1) c.args.self.now) c.requires.first c.requires.refused in
    refused_left b m c.args.limit w.count w (world_in (λ b. (g.dyn-1.0.entry b.vtable).1) c.step_declined.new.self) c.in_ok-over.over (counts_in c.args.self.now.positions) (counts_in c.args.self.now.positions) c.requires.going.going c.requires.within ends c.in_ok-over.ensures.step refl
