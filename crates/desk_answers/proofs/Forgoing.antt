-- What stays after a command that is an edit.
use Rattle.std.proofs.Common.{Result, Ok, Err, OnErr, refl}
use Rattle.sim_values.specs.declared.NoMemory.{NoMemory}
use Rattle.module_api.specs.Behaviour.{Behaviour}
use Rattle.edit_session.specs.Editing.{Editing}
use Rattle.desk_commands.specs.Commands.{IsEdit}
use Rattle.desk_commands.specs.declared.commands.Command.{Command}
use Rattle.desk_commands.specs.declared.commands.Command.TheVariants as command
use Rattle.desk_answers.specs.Turns.{Forgoes}

-- all of the session, where memory runs out for the line
all_kept : (b : Behaviour) (c : Command) (e : Editing) → IsEdit c → Forgoes b c e e
all_kept b (command.Run limit) e is = absurd is
all_kept b (command.Edit edit) e is = refl
all_kept b (command.Ned number path) e is = refl
all_kept b command.Positions e is = absurd is
all_kept b command.Held e is = absurd is
all_kept b command.Write e is = absurd is
all_kept b command.Unknown e is = absurd is
all_kept b command.TooLarge e is = absurd is

pub where_no_memory : {A : Type 0} (r : Result A NoMemory) (b : Behaviour) (c : Command) (e : Editing) → IsEdit c → OnErr r (Forgoes b c e e)
where_no_memory (Ok x) b c e is = tt
where_no_memory (Err error) b c e is = all_kept b c e is
