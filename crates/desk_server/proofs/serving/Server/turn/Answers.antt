use Rattle.std.proofs.Common.{refl, rules}
use Rattle.desk_answers.specs.Turns.{editing_at}
use Rattle.module_network.specs.Library.{library}
use Rattle.desk_server.specs.Serving.{seen, seen_in}
use Rattle.desk_server.proofs.ServingTurns.{asked_turn, run_turn}
use Rattle.desk_server.proofs.serving.Server.turn.Goals as goal

pub returns-in-Some : goal.returns-in-Some
returns-in-Some g c = record {
  kept = search rules;
  label = search rules;
  stops = search rules;
  sound = search rules;
  comes = run_turn library c.in-Some.limit (seen_in (λ b. (g.dyn-1.0.entry b.vtable).1) g.K.Client.asked g.K.Client.heard g.K.Client.left c.args.self.now)
      (seen_in (λ b. (g.dyn-1.0.entry b.vtable).1) g.K.Client.asked g.K.Client.heard g.K.Client.left c.run.new.self) c.run.result c.in-Some.is c.run.ensures.comes;
}

pub returns-in-Ok-Some : goal.returns-in-Ok-Some
returns-in-Ok-Some g c = record {
  kept = search rules;
  label = search rules;
  stops = search rules;
  sound = search rules;
  comes = asked_turn library c.in-Ok-Some.asked (seen_in (λ b. (g.dyn-1.0.entry b.vtable).1) g.K.Client.asked g.K.Client.heard g.K.Client.left c.args.self.now)
      (seen (editing_at (λ b. (g.dyn-1.0.entry b.vtable).1) c.args.self.now.desk) (g.K.Client.asked c.next.new.self) (g.K.Client.heard c.next.new.self) (g.K.Client.left c.next.new.self) c.args.self.now.running)
      (seen_in (λ b. (g.dyn-1.0.entry b.vtable).1) g.K.Client.asked g.K.Client.heard g.K.Client.left c.answer.new.self) c.answer.result
      (record {
        idle = c.in_default.is;
        asked = rw c.in-Ok-Some.field-0-is at c.in-Ok-Some.ensures.asked;
        heard = c.in-Ok-Some.ensures.heard;
        less = rw c.in-Ok-Some.field-0-is at c.in-Ok-Some.ensures.less;
        editing = refl;
      }) c.answer.ensures.comes;
}
