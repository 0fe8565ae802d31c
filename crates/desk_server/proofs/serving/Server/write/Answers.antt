use Rattle.std.proofs.Common.{sym, ap, ◌∙◌, rules}
use Rattle.desk_answers.specs.Turns.{editing_at}
use Rattle.module_network.specs.Library.{library}
use Rattle.desk_server.specs.Serving.{seen_in}
use Rattle.desk_server.proofs.Hearing.{no_last, tells_no_files, tells_not_done}
use Rattle.desk_server.proofs.Telling.{serves_told}
use Rattle.desk_server.proofs.serving.Server.write.Goals as goal

pub returns-in-Ok-None : goal.returns-in-Ok-None
returns-in-Ok-None g c = serves_told c.hear.ensures c.hear.ensures.stops (search rules) (search rules)
    (let editing = editing_at (λ b. (g.dyn-1.0.entry b.vtable).1) c.args.self.now.desk in
    let none = no_last library editing.model editing.done (rw (c.in-Ok-None.is, c.in-Ok-None.field-0-is) at c.files.ensures.files) in
    tells_not_done library (seen_in (λ b. (g.dyn-1.0.entry b.vtable).1) g.K.Client.asked g.K.Client.heard g.K.Client.left c.args.self.now)
    (seen_in (λ b. (g.dyn-1.0.entry b.vtable).1) g.K.Client.asked g.K.Client.heard g.K.Client.left c.hear.new.self) c.hear.result c.hear.ensures.asked c.hear.ensures.left (c.hear.ensures.running ∙ c.requires.idle)
    (ap (editing_at (λ b. (g.dyn-1.0.entry b.vtable).1)) c.hear.ensures.desk) none (rw c.as_slice.ensures at c.hear.ensures.heard))

pub write_files-requires-clause-files : goal.write_files-requires-clause-files
write_files-requires-clause-files g c = sym (rw (c.in-Ok-Some.is, c.in-Ok-Some.field-0-is) at c.files.ensures.files)

pub returns-in-Err : goal.returns-in-Err
returns-in-Err g c = serves_told c.out_of_memory.ensures c.out_of_memory.ensures.stops (search rules) (search rules)
    (tells_no_files library (seen_in (λ b. (g.dyn-1.0.entry b.vtable).1) g.K.Client.asked g.K.Client.heard g.K.Client.left c.args.self.now)
    (seen_in (λ b. (g.dyn-1.0.entry b.vtable).1) g.K.Client.asked g.K.Client.heard g.K.Client.left c.out_of_memory.new.self) c.out_of_memory.result c.out_of_memory.ensures.asked c.out_of_memory.ensures.left c.out_of_memory.ensures.running
    (ap (editing_at (λ b. (g.dyn-1.0.entry b.vtable).1)) c.out_of_memory.ensures.desk) (rw c.in-Err.is at c.files.ensures.done) c.out_of_memory.ensures.heard)
