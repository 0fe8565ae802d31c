-- Why the program ends early.
use Rattle.std.specs.Prelude.{◌≡◌, ℕ, List, ◌++◌, codes}
use Rattle.std.specs.String.{string_bytes}
use Rattle.std.specs.declared.io.Error.{Error as SystemError}
use Rattle.clap.specs.Values.{kind_of}
use Rattle.clap.specs.declared.error.kind.ErrorKind.{ErrorKind}
use Rattle.clap.specs.declared.error.kind.ErrorKind.TheVariants as kind
use Rattle.nedrun_exit.specs.declared.stops.ExitReason.{ExitReason}
use Rattle.nedrun_exit.specs.declared.stops.ExitReason.TheVariants as stop

-- a file, a folder or a stream of that name failed: what of it, and what the system says; or memory
-- ran out for the line that tells so
abbrev pub IsFailed : List ℕ → List ℕ → SystemError → ExitReason → Type 0
IsFailed what name error (stop.Failed line told) =
    (string_bytes line ≡ name ++ (codes ": " ++ what)) × (told ≡ error)
IsFailed what name error (stop.NoMemory _) = Unit {0}
IsFailed what name error _ = ⊥

-- whatever the system says of it
abbrev pub Fails : List ℕ → List ℕ → ExitReason → Type 0
Fails what name (stop.Failed line _) = string_bytes line ≡ name ++ (codes ": " ++ what)
Fails what name (stop.NoMemory _) = Unit {0}
Fails what name _ = ⊥

-- memory ran out
abbrev pub IsOutOfMemory : ExitReason → Type 0
IsOutOfMemory (stop.NoMemory _) = Unit {0}
IsOutOfMemory _ = ⊥

-- the status after words that aren't as they should be; those that ask for help or the version are
abbrev pub words_status : ErrorKind → ℕ
words_status kind.OutOfMemory = 1
words_status kind.DisplayHelp = 0
words_status kind.DisplayVersion = 0
words_status _ = 2

-- the status of a program that ends for that reason
abbrev pub status_of : ExitReason → ℕ
status_of (stop.Words error) = words_status (kind_of error)
status_of (stop.Refused text line) = 2
status_of (stop.Failed line error) = 1
status_of stop.Spent = 1
status_of stop.Fault = 3
status_of (stop.NoMemory error) = 1
