use Rattle.std.proofs.Common.{sym, ap, subst, rules}
use Rattle.std.proofs.Math.Facts.{Fits-lt-pow}
use Rattle.desk_answers.specs.Turns.{editing_at}
use Rattle.module_network.specs.Library.{library}
use Rattle.desk_server.specs.Serving.{seen_in}
use Rattle.desk_server.proofs.Hearing.{idle_done, tells_memory, tells_run}
use Rattle.desk_server.proofs.Telling.{serves_told}
use Rattle.desk_server.proofs.Turning.{live_not_back}
use Rattle.desk_server.proofs.Wanting.{met_stops, wants_turn}
use Rattle.desk_server.proofs.serving.Server.run.Goals as goal

pub returns-in-Ok-Text : goal.returns-in-Ok-Text
returns-in-Ok-Text g c = serves_told c.hear.ensures c.hear.ensures.stops (search rules) (search rules)
    (tells_run library c.args.limit _ (seen_in (λ b. (g.dyn-1.0.entry b.vtable).1) g.K.Client.asked g.K.Client.heard g.K.Client.left c.hear.new.self) c.in-Ok-Text.answer.text c.hear.result c.hear.ensures.asked c.hear.ensures.left c.hear.ensures.running
    (rw c.hear.ensures.desk (record { model = c.run.ensures.kept.model; idle = idle_done c.run.new.self.session.phase (editing_at (λ b. (g.dyn-1.0.entry b.vtable).1) c.run.new.self).done c.run.new.self.session.known c.run.new.self.session.runner.positions c.run.ensures.kept.sound.kept.undone })) (rw c.hear.ensures.desk (rw c.in-Ok-Text.field-0-is at c.in-Ok-Text.ensures.ran)) (rw c.as_bytes.ensures at c.hear.ensures.heard))

pub returns-in-Err : goal.returns-in-Err
returns-in-Err g c = serves_told c.out_of_memory.ensures c.out_of_memory.ensures.stops (search rules) (search rules)
    (tells_memory library c.args.limit _ (seen_in (λ b. (g.dyn-1.0.entry b.vtable).1) g.K.Client.asked g.K.Client.heard g.K.Client.left c.out_of_memory.new.self) c.out_of_memory.result c.out_of_memory.ensures.asked c.out_of_memory.ensures.left c.out_of_memory.ensures.running
    (rw c.out_of_memory.ensures.desk (record { model = c.run.ensures.kept.model; idle = idle_done c.run.new.self.session.phase (editing_at (λ b. (g.dyn-1.0.entry b.vtable).1) c.run.new.self).done c.run.new.self.session.known c.run.new.self.session.runner.positions c.run.ensures.kept.sound.kept.undone })) (rw c.out_of_memory.ensures.desk c.in-Err.ensures.memory) c.out_of_memory.ensures.heard)

pub need_of-requires-clause-waits : goal.need_of-requires-clause-waits
need_of-requires-clause-waits g c =
    (rw c.in-Ok-Want.field-0-is at c.in-Ok-Want.ensures.ran).asks

pub returns-in-Ok-Want : goal.returns-in-Ok-Want
returns-in-Ok-Want g c = record {
  kept = subst g.K.Client.keeps (sym c.need_of.ensures.client) c.requires.kept;
  label = ap g.K.Client.label c.need_of.ensures.client;
  stops = met_stops (g.K.Client.stops c.need_of.new.self.client) library (editing_at (λ b. (g.dyn-1.0.entry b.vtable).1) c.run.new.self) (editing_at (λ b. (g.dyn-1.0.entry b.vtable).1) c.need_of.new.self.desk) c.need_of.result c.need_of.ensures.met;
  sound = c.need_of.ensures.sound;
  comes = wants_turn library c.args.limit (seen_in (λ b. (g.dyn-1.0.entry b.vtable).1) g.K.Client.asked g.K.Client.heard g.K.Client.left c.args.self.now)
      (seen_in (λ b. (g.dyn-1.0.entry b.vtable).1) g.K.Client.asked g.K.Client.heard g.K.Client.left c.need_of.new.self) (editing_at (λ b. (g.dyn-1.0.entry b.vtable).1) c.run.new.self) c.in-Ok-Want.request c.need_of.result
      (rw c.in-Ok-Want.field-0-is at c.in-Ok-Want.ensures.ran) c.need_of.ensures.met (ap g.K.Client.asked c.need_of.ensures.client) (ap g.K.Client.heard c.need_of.ensures.client) (ap g.K.Client.left c.need_of.ensures.client) c.need_of.ensures.running (Fits-lt-pow c.ranges.limit)
      (live_not_back library _ _ _ c.need_of.new.self.desk.session.phase c.need_of.ensures.sound.kept.live);
}
