use Rattle.std.proofs.Common.{ap, rules}
use Rattle.desk_answers.specs.Turns.{editing_at}
use Rattle.module_network.specs.Library.{library}
use Rattle.desk_server.specs.Served.{command_asked}
use Rattle.desk_server.specs.Serving.{seen_in}
use Rattle.desk_server.proofs.Hearing.{tells_no_line}
use Rattle.desk_server.proofs.Telling.{serves_told}
use Rattle.desk_server.proofs.serving.Server.answer.Goals as goal

pub returns-in-Line : goal.returns-in-Line
returns-in-Line g c = serves_told c.out_of_memory.ensures c.out_of_memory.ensures.stops (search rules) (search rules)
    (tells_no_line library (command_asked c.args.asked) (seen_in (λ b. (g.dyn-1.0.entry b.vtable).1) g.K.Client.asked g.K.Client.heard g.K.Client.left c.args.self.now)
    (seen_in (λ b. (g.dyn-1.0.entry b.vtable).1) g.K.Client.asked g.K.Client.heard g.K.Client.left c.out_of_memory.new.self) c.out_of_memory.result (rw c.in-Line.is (rw c.as_bytes.ensures at c.in-Err.ensures.memory))
    c.out_of_memory.ensures.asked c.out_of_memory.ensures.left c.out_of_memory.ensures.running (ap (editing_at (λ b. (g.dyn-1.0.entry b.vtable).1)) c.out_of_memory.ensures.desk) c.out_of_memory.ensures.heard)
