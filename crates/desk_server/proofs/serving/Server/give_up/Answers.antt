use Rattle.std.proofs.Common.{refl, ap, ◌∙◌, rules}
use Rattle.desk_answers.specs.Turns.{editing_at}
use Rattle.module_network.specs.Library.{library}
use Rattle.desk_server.specs.Serving.{seen_in}
use Rattle.desk_server.proofs.ServingTurns.{memory_turn}
use Rattle.desk_server.proofs.Telling.{serves_told}
use Rattle.desk_server.proofs.serving.Server.give_up.Goals as goal

pub returns : goal.returns
returns g c = serves_told c.out_of_memory.ensures c.out_of_memory.ensures.stops c.give_up_run.ensures.sound (search rules)
    (memory_turn library (λ b. (g.dyn-1.0.entry b.vtable).1) c.args.self.now.desk.session (seen_in (λ b. (g.dyn-1.0.entry b.vtable).1) g.K.Client.asked g.K.Client.heard g.K.Client.left c.args.self.now)
    (seen_in (λ b. (g.dyn-1.0.entry b.vtable).1) g.K.Client.asked g.K.Client.heard g.K.Client.left c.out_of_memory.new.self) c.out_of_memory.result c.requires.sound refl c.requires.going
    (ap (editing_at (λ b. (g.dyn-1.0.entry b.vtable).1)) c.out_of_memory.ensures.desk ∙ c.give_up_run.ensures.left) c.out_of_memory.ensures.asked c.out_of_memory.ensures.left c.out_of_memory.ensures.running c.out_of_memory.ensures.heard)
