-- What command lines ask for.
use Rattle.std.specs.Prelude.{ℕ, List, Option, Some, None, option_map, codes, length, nat_lt}
use Rattle.std.specs.Prelude.{if◌then◌else◌}
use Rattle.std.specs.Option.{option_and_then}
use Rattle.std.specs.Str.{bytes_eq}
use Rattle.model_edits.specs.declared.edit.Edit.{Edit}
use Rattle.model_edits.specs.declared.edit.Edit.TheVariants as edit
use Rattle.desk_commands.specs.declared.commands.Command.{Command}
use Rattle.desk_commands.specs.declared.commands.Command.TheVariants as command
use Rattle.desk_commands.specs.Injections.{injection_of, withdrawal_of}
use Rattle.desk_commands.specs.Numbers.{number_of}
use Rattle.desk_commands.specs.Words.{behind, named, numbered, short_numbered, word_of}

-- ---- edits

-- `insert L TEXT`, after `ini `: TEXT is all the rest, its bytes as they are
abbrev pub insertion_of : List ℕ → Option Edit
insertion_of rest = option_map (λ p. edit.InsertIni p.0 p.1)
    (option_and_then numbered (behind (codes "insert ") rest))

-- `replace L TEXT`
abbrev pub replacement_of : List ℕ → Option Edit
replacement_of rest = option_map (λ p. edit.ReplaceIni p.0 p.1)
    (option_and_then numbered (behind (codes "replace ") rest))

-- `remove L`
abbrev pub removal_of : List ℕ → Option Edit
removal_of rest =
    option_map edit.RemoveIni (option_and_then number_of (behind (codes "remove ") rest))

abbrev pub or_else : Option Edit → Option Edit → Option Edit
or_else (Some e) other = Some e
or_else None other = other

-- `ini ..`
abbrev pub ini_edit_of : List ℕ → Option Edit
ini_edit_of rest = or_else (insertion_of rest) (or_else (replacement_of rest) (removal_of rest))

-- `config NAME`
abbrev pub selection_of : List ℕ → Option Edit
selection_of line =
    option_map edit.SelectConfig (option_and_then word_of (behind (codes "config ") line))

-- the connection of `TYPE PLACE TEXT`, after `connect `: TEXT is all the rest, its bytes as they
-- are
abbrev pub connection_at : List ℕ × List ℕ → Option Edit
connection_at p = option_map (λ q. edit.AddConnection p.0 q.0 q.1) (numbered p.1)

-- `connect TYPE PLACE TEXT`
abbrev pub addition_of : List ℕ → Option Edit
addition_of line =
    option_and_then connection_at (option_and_then named (behind (codes "connect ") line))

-- the place of `TYPE PLACE`, after `disconnect `
abbrev pub place_at : List ℕ × List ℕ → Option Edit
place_at p = option_map (λ place. edit.RemoveConnection p.0 place) (number_of p.1)

-- `disconnect TYPE PLACE`
abbrev pub disconnection_of : List ℕ → Option Edit
disconnection_of line =
    option_and_then place_at (option_and_then named (behind (codes "disconnect ") line))

-- an edit of connections
abbrev pub connection_edit_of : List ℕ → Option Edit
connection_edit_of line = or_else (addition_of line) (disconnection_of line)

-- the edit that a line asks for
unfoldable pub edit_of : List ℕ → Option Edit
edit_of line =
    or_else (option_and_then ini_edit_of (behind (codes "ini ") line))
    (or_else (selection_of line)
    (or_else (injection_of line) (or_else (connection_edit_of line) (withdrawal_of line))))

-- ---- commands

-- the limit in `run N`
abbrev pub limit_of : List ℕ → Option ℕ
limit_of line = option_and_then number_of (behind (codes "run ") line)

-- the file of `ned FILE PATH`: its number, and the path of the file that holds its text
abbrev pub file_of : List ℕ → Option (ℕ × List ℕ)
file_of line = option_and_then (λ p. option_map (λ path. (p.0, path)) (word_of p.1))
    (option_and_then short_numbered (behind (codes "ned ") line))

-- what is neither a run nor an edit: `write`, `held`, `positions`, or nothing
abbrev pub plain_command : List ℕ → Command
plain_command line =
    if bytes_eq line (codes "write") then command.Write
    else if bytes_eq line (codes "held") then command.Held
    else if bytes_eq line (codes "positions") then command.Positions
    else command.Unknown

abbrev pub file_or_plain : List ℕ → Option (ℕ × List ℕ) → Command
file_or_plain line (Some p) = command.Ned p.0 p.1
file_or_plain line None = plain_command line

abbrev pub edit_or_other : List ℕ → Option Edit → Command
edit_or_other line (Some e) = command.Edit e
edit_or_other line None = file_or_plain line (file_of line)

abbrev pub run_or_other : List ℕ → Option ℕ → Command
run_or_other line (Some limit) = command.Run limit
run_or_other line None = edit_or_other line (edit_of line)

-- THE COMMAND that a line asks for
abbrev pub command_of : List ℕ → Command
command_of line = if nat_lt 65536 (length line) then command.TooLarge
    else run_or_other line (limit_of line)

-- it is an edit, or one whose text a file holds
abbrev pub IsEdit : Command → Type 0
IsEdit (command.Edit e) = Unit {0}
IsEdit (command.Ned number path) = Unit {0}
IsEdit (command.Run limit) = ⊥
IsEdit command.Positions = ⊥
IsEdit command.Held = ⊥
IsEdit command.Write = ⊥
IsEdit command.Unknown = ⊥
IsEdit command.TooLarge = ⊥
