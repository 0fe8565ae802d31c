use Rattle.std.proofs.Common.{rules}
use Rattle.desk_answers.specs.Turns.{editing_at}
use Rattle.module_network.specs.Library.{library}
use Rattle.desk_server.specs.Serving.{seen_in}
use Rattle.desk_server.proofs.Hearing.{misses_files, some_last}
use Rattle.desk_server.proofs.serving.Server.write_files.Goals as goal

pub returns-in-Err : goal.returns-in-Err
returns-in-Err g c = record {
  kept = search rules;
  label = search rules;
  stops = search rules;
  sound = search rules;
  comes = let editing = editing_at (λ b. (g.dyn-1.0.entry b.vtable).1) c.args.self.now.desk in
      misses_files library (seen_in (λ b. (g.dyn-1.0.entry b.vtable).1) g.K.Client.asked g.K.Client.heard g.K.Client.left c.args.self.now) _ c.open.ensures.asked c.open.ensures.heard
      (some_last library editing.model editing.done c.args.files.now c.requires.files);
}
