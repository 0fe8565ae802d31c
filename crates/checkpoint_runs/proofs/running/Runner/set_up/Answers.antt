use Rattle.std.proofs.Common.{[], List, ap, subst}
use Rattle.run_semantics.specs.Run.{Part}
use Rattle.kernel.specs.Kernels.{world_in}
use Rattle.checkpoint_runs.specs.Kept.{waiting_in}
use Rattle.checkpoint_runs.specs.Running.{parts_in, wanted_by, Stands, Wants}
use Rattle.checkpoint_runs.proofs.Filling.{filled_first, setup_boxes, setup_none, setup_wants_none, start_over}
use Rattle.checkpoint_runs.proofs.running.Runner.set_up.Goals as goal

-- what was set up waits for its boxes
pub next_box-requires : goal.next_box-requires
next_box-requires g c = record {
  filled = filled_first g.C.Catalogue.behaviour g.M.ModelMarker.answers (world_in (λ b. (g.dyn-1.0.entry b.vtable).1) c.set_network_up.new.self.kernel) (waiting_in (λ b. (g.dyn-1.0.entry b.vtable).1) c.set_network_up.new.self) c.set_network_up.ensures.none (rw c.in-None.is at c.in_ok-outcome.ensures.step);
}

pub returns-in-Some-clause-stands : goal.returns-in-Some-clause-stands
returns-in-Some-clause-stands g c =
    let b = g.C.Catalogue.behaviour in
    let m = g.M.ModelMarker.answers in
    let w = world_in (λ b. (g.dyn-1.0.entry b.vtable).1) c.set_network_up.new.self.kernel in
    let over = rw c.in-Some.is at c.in_ok-outcome.ensures.step in
    (start_over b m w c.in-Some.outcome over, setup_none m w c.in-Some.outcome over, setup_boxes b m w (waiting_in (λ b. (g.dyn-1.0.entry b.vtable).1) c.set_network_up.new.self) c.in-Some.outcome c.set_network_up.ensures.none over)

pub returns-in_ok-standing-in-None-clause-stands : goal.returns-in_ok-standing-in-None-clause-stands
returns-in_ok-standing-in-None-clause-stands g c =
    let w = world_in (λ b. (g.dyn-1.0.entry b.vtable).1) c.set_network_up.new.self.kernel in
    let xs = waiting_in (λ b. (g.dyn-1.0.entry b.vtable).1) c.set_network_up.new.self in
    subst (λ (kept : List Part). Stands g.C.Catalogue.behaviour g.M.ModelMarker.answers kept w xs c.in_ok-standing-in-None.standing)
    (ap parts_in c.set_network_up.ensures.none) c.in_ok-standing-in-None.ensures.stands

pub returns-in_ok-standing-in-None-clause-wants : goal.returns-in_ok-standing-in-None-clause-wants
returns-in_ok-standing-in-None-clause-wants g c =
    subst (λ (kept : List Part). Wants (wanted_by g.M.ModelMarker.answers kept) c.in_ok-standing-in-None.standing)
    (ap parts_in c.set_network_up.ensures.none) c.in_ok-standing-in-None.ensures.wants

pub returns-in-Some-clause-wants : goal.returns-in-Some-clause-wants
returns-in-Some-clause-wants g c =
    setup_wants_none g.M.ModelMarker.answers [] (world_in (λ b. (g.dyn-1.0.entry b.vtable).1) c.set_network_up.new.self.kernel) c.in-Some.outcome (rw c.in-Some.is at c.in_ok-outcome.ensures.step)
