use Rattle.std.proofs.Common.{rules, refl, ◌∙◌}
use Rattle.module_network.specs.Library.{library}
use Rattle.desk_server.specs.Serving.{seen_in}
use Rattle.desk_server.proofs.Hearing.{misses_read, tells_replaced}
use Rattle.desk_server.proofs.serving.Server.ned.Goals as goal

pub returns-in-Ok : goal.returns-in-Ok
returns-in-Ok g c = record {
  kept = c.tell.ensures.kept;
  label = c.tell.ensures.label ∙ c.in-Ok.ensures.label;
  stops = c.tell.ensures.stops;
  sound = c.tell.ensures.sound;
  comes = tells_replaced library c.args.number c.args.path c.in-Ok.text
      (seen_in (λ b. (g.dyn-1.0.entry b.vtable).1) g.K.Client.asked g.K.Client.heard g.K.Client.left c.args.self.now)
      (seen_in (λ b. (g.dyn-1.0.entry b.vtable).1) g.K.Client.asked g.K.Client.heard g.K.Client.left (record c.args.self.now { client = c.read.new.self }))
      (seen_in (λ b. (g.dyn-1.0.entry b.vtable).1) g.K.Client.asked g.K.Client.heard g.K.Client.left c.tell.new.self) c.tell.result
      c.in-Ok.ensures.asked c.in-Ok.ensures.left refl (rw c.as_bytes.ensures at c.in-Ok.ensures.heard) c.tell.ensures.comes;
}

pub returns : goal.returns
returns g c = record {
  kept = search rules;
  label = search rules;
  stops = search rules;
  sound = search rules;
  comes = misses_read library c.args.number c.args.path (seen_in (λ b. (g.dyn-1.0.entry b.vtable).1) g.K.Client.asked g.K.Client.heard g.K.Client.left c.args.self.now) _ c.read.ensures.asked c.in-Err.ensures.gone;
}
