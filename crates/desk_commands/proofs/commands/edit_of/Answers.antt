use Rattle.std.proofs.Common.{IsSome}
use Rattle.desk_commands.specs.Commands.{edit_of}
use Rattle.desk_commands.proofs.Asking.{by_connection, by_injection, on_err}
use Rattle.desk_commands.proofs.commands.edit_of.Goals as goal

pub returns-in_err-injection-clause-memory : goal.returns-in_err-injection-clause-memory
returns-in_err-injection-clause-memory c =
    on_err c.from_residual-in_err-injection.result (IsSome (edit_of c.args.line.now)) (by_injection c.args.line.now c.in_err-injection.ensures.memory)

pub returns-in_err-connection-clause-memory : goal.returns-in_err-connection-clause-memory
returns-in_err-connection-clause-memory c =
    on_err c.from_residual-in_err-connection.result (IsSome (edit_of c.args.line.now)) (by_connection c.args.line.now c.in_err-connection.ensures.memory)
