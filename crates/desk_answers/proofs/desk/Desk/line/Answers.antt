use Rattle.desk_commands.specs.Commands.{command_of}
use Rattle.desk_answers.specs.Turns.{editing_at}
use Rattle.desk_answers.proofs.Forgoing.{where_no_memory}
use Rattle.desk_answers.proofs.desk.Desk.line.Goals as goal

pub returns-in_err-command-clause-memory : goal.returns-in_err-command-clause-memory
returns-in_err-command-clause-memory g c =
    where_no_memory c.from_residual.result g.C.Catalogue.behaviour (command_of c.args.line.now) (editing_at (λ b. (g.dyn-1.0.entry b.vtable).1) c.args.self.now) c.in_err-command.ensures.memory
