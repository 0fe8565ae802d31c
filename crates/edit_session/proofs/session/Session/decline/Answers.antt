use Rattle.std.proofs.Common.{option_map, sym, ◌∙◌}
use Rattle.kernel.specs.Kernels.{boxes_in, world_in}
use Rattle.checkpoint_runs.specs.Kept.{waiting_in}
use Rattle.edit_session.specs.Sessions.{completed_of}
use Rattle.edit_session.proofs.Boxes.{kept_declined}
use Rattle.edit_session.proofs.session.Session.decline.Goals as goal

pub returns-in-Some-clause-sound : goal.returns-in-Some-clause-sound
returns-in-Some-clause-sound g c =
    let runner = c.args.self.now.runner in
    record {
      kept = kept_declined g.C.Catalogue.behaviour g.C.Catalogue.lawful (boxes_in (λ b. (g.dyn-1.0.entry b.vtable).1) runner.kernel) (waiting_in (λ b. (g.dyn-1.0.entry b.vtable).1) runner) (world_in (λ b. (g.dyn-1.0.entry b.vtable).1) runner.kernel) c.args.self.now.model c.args.self.now.phase c.declined_at-self.result (option_map completed_of c.args.self.now.done) c.args.self.now.known c.args.self.now.runner.positions c.in-Some.field-0
          c.requires.sound.kept (sym c.wanted_id.ensures ∙ c.in-Some.is) c.requires.unknown c.declined_at-self.ensures;
      shown = c.requires.sound.shown;
    }
