use Rattle.std.proofs.Common.{ap, ◌∙◌, rules}
use Rattle.desk_answers.specs.Turns.{editing_at}
use Rattle.text_writer.specs.declared.noted.GhostBytes.{GhostBytes}
use Rattle.module_network.specs.Library.{library}
use Rattle.desk_server.specs.Serving.{seen_in}
use Rattle.desk_server.proofs.Hearing.{misses_files, some_last, tells_written}
use Rattle.desk_server.proofs.serving.Server.fill.Goals as goal

pub returns-in-Ok-keep : goal.returns-in-Ok-keep
returns-in-Ok-keep g c = record {
  kept = search rules;
  label = search rules;
  stops = search rules;
  sound = search rules;
  comes = tells_written library (seen_in (λ b. (g.dyn-1.0.entry b.vtable).1) g.K.Client.asked g.K.Client.heard g.K.Client.left c.args.self.now)
      (seen_in (λ b. (g.dyn-1.0.entry b.vtable).1) g.K.Client.asked g.K.Client.heard g.K.Client.left c.hear.new.self) (g.K.Client.heard c.keep.new.self) c.write_both.new.pages.config.bytes _ _ c.hear.result
      (c.hear.ensures.asked ∙ c.in-Ok-keep.ensures.asked) (c.hear.ensures.left ∙ c.in-Ok-keep.ensures.left) (c.hear.ensures.running ∙ c.requires.ready.idle)
      (ap (editing_at (λ b. (g.dyn-1.0.entry b.vtable).1)) c.hear.ensures.desk) (ap (λ (n : GhostBytes). n.bytes) c.in-Ok.ensures.config ∙ c.requires.config) c.in-Ok.ensures.written c.in-Ok-keep.ensures.heard
      (rw c.as_slice.ensures at c.hear.ensures.heard);
}

pub returns-in-Err-keep : goal.returns-in-Err-keep
returns-in-Err-keep g c = record {
  kept = search rules;
  label = search rules;
  stops = search rules;
  sound = search rules;
  comes = misses_files library (seen_in (λ b. (g.dyn-1.0.entry b.vtable).1) g.K.Client.asked g.K.Client.heard g.K.Client.left c.args.self.now) _ c.in-Err-keep.ensures.asked c.in-Err-keep.ensures.gone (some_last library (editing_at (λ b. (g.dyn-1.0.entry b.vtable).1) c.args.self.now.desk).model (editing_at (λ b. (g.dyn-1.0.entry b.vtable).1) c.args.self.now.desk).done c.args.files.now c.requires.files);
}

pub returns-in-Err : goal.returns-in-Err
returns-in-Err g c = record {
  kept = search rules;
  label = search rules;
  stops = search rules;
  sound = search rules;
  comes = misses_files library (seen_in (λ b. (g.dyn-1.0.entry b.vtable).1) g.K.Client.asked g.K.Client.heard g.K.Client.left c.args.self.now) _ c.lose.ensures.asked c.lose.ensures.heard (some_last library (editing_at (λ b. (g.dyn-1.0.entry b.vtable).1) c.args.self.now.desk).model (editing_at (λ b. (g.dyn-1.0.entry b.vtable).1) c.args.self.now.desk).done c.args.files.now c.requires.files);
}
