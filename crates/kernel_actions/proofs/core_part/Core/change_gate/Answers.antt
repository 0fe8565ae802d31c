use Rattle.std.proofs.Common.{[], ◌∷◌, subst, sym}
use Rattle.run_semantics.proofs.Orderly.{on_same}
use Rattle.run_semantics.specs.World.{World}
use Rattle.kernel_actions.specs.Positions.{IsGrownFrom}
use Rattle.kernel_actions.proofs.core_part.Core.change_gate.Goals as goal

pub returns-clause-grown : goal.returns-clause-grown
returns-clause-grown c =
    let left : World = record {
      clock = c.self.inside.clock;
      count = c.self.inside.count;
      records = c.self.inside.modules.records;
      dead = c.self.inside.modules.dead;
      modules = [];
      started = c.self.inside.started;
      finished = c.self.inside.finished;
      pending = c.self.inside.pending.list;
      next = c.self.inside.pending.next;
      ended = c.self.inside.ended;
      delivered = c.self.inside.delivered;
      transmissions = c.forget_transmission.new.transmissions;
      changes = c.push.new.self;
      emissions = c.self.inside.emissions;
      scalars = c.self.inside.scalars;
      questions = c.self.inside.questions;
    } in
    subst (λ (w : World). IsGrownFrom w left) c.self.view_is (record {
      records = on_same c.self.inside.modules.records;
      dead = on_same c.self.inside.modules.dead;
      started = on_same c.self.inside.started;
      finished = on_same c.self.inside.finished;
      changes = (record { gate = c.args.gate; to = c.args.to } ∷ [], sym c.in_ok-push.ensures.ok);
      emissions = on_same c.self.inside.emissions;
      scalars = on_same c.self.inside.scalars;
      questions = on_same c.self.inside.questions;
    })
