use Rattle.std.proofs.Common.{◌∙◌, rules}
use Rattle.module_network.specs.Library.{library}
use Rattle.desk_server.specs.Serving.{seen_in}
use Rattle.desk_server.proofs.Hearing.{tells_forgone, tells_reply}
use Rattle.desk_server.proofs.Telling.{serves_told}
use Rattle.desk_server.proofs.serving.Server.tell.Goals as goal

pub returns-in-Ok : goal.returns-in-Ok
returns-in-Ok g c = serves_told c.hear.ensures c.hear.ensures.stops c.reply.ensures.sound (search rules)
    (tells_reply library c.args.command _ (seen_in (λ b. (g.dyn-1.0.entry b.vtable).1) g.K.Client.asked g.K.Client.heard g.K.Client.left c.hear.new.self) c.in-Ok.answer c.hear.result c.requires.plain
    c.hear.ensures.asked c.hear.ensures.left (c.hear.ensures.running ∙ c.requires.ready.idle) (rw c.hear.ensures.desk c.in-Ok.ensures.answer) (rw c.as_bytes.ensures at c.hear.ensures.heard))

pub returns-in-Err : goal.returns-in-Err
returns-in-Err g c = serves_told c.out_of_memory.ensures c.out_of_memory.ensures.stops c.reply.ensures.sound (search rules)
    (tells_forgone library c.args.command _ (seen_in (λ b. (g.dyn-1.0.entry b.vtable).1) g.K.Client.asked g.K.Client.heard g.K.Client.left c.out_of_memory.new.self) c.out_of_memory.result c.requires.plain
    c.out_of_memory.ensures.asked c.out_of_memory.ensures.left c.out_of_memory.ensures.running (rw c.out_of_memory.ensures.desk c.in-Err.ensures.memory) c.out_of_memory.ensures.heard)
