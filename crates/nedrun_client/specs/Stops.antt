-- Why a user can't go on.
use Rattle.std.specs.Prelude.{◌≡◌, ◌⊎◌, ℕ, List, ◌++◌, codes}
use Rattle.std.specs.String.{string_bytes}
use Rattle.input_lines.specs.Waits.{Waiting, IsSpent}
use Rattle.nedrun_script.specs.Asking.{IsUnasked}
use Rattle.nedrun_script.specs.declared.dialogue.Ask.{Ask}
use Rattle.nedrun_exit.specs.Stops.{Fails}
use Rattle.nedrun_exit.specs.declared.stops.ExitReason.{ExitReason}
use Rattle.nedrun_exit.specs.declared.stops.ExitReason.TheVariants as stop
use Rattle.nedrun_files.specs.Stops.{IsUnadvised, IsUnsaid, IsUnwritable}

-- one of two files can't be written
abbrev pub IsOneUnwritable : List ℕ → List ℕ → ExitReason → Type 0
IsOneUnwritable scalars vectors s = IsUnwritable scalars s ⊎ IsUnwritable vectors s

-- an answer can't be printed, or what is said of it to a person
abbrev pub IsUntold : ExitReason → Type 0
IsUntold s = IsUnsaid s ⊎ IsUnadvised s

-- the file of some path can't be written
abbrev pub IsLost : ExitReason → Type 0
IsLost s = (path : List ℕ) × IsUnwritable path s

-- the folder of that path can't be made
abbrev pub IsUnmade : List ℕ → ExitReason → Type 0
IsUnmade directory s = Fails (codes "this folder can't be made") directory s

-- why a user asks nothing: the folder of the result files can't be made, or the dialogue asks
-- nothing
abbrev pub IsAskless : List ℕ → Ask → ℕ → ℕ → Waiting → ExitReason → Type 0
IsAskless directory a failures failures' waiting s =
    IsUnmade directory s ⊎ IsUnasked a failures failures' waiting s

-- what is told of a stream of the user, of a file or the folder of a run, or of a file that a
-- command names
abbrev pub IsOfUser : List ℕ → Type 0
IsOfUser line = (line ≡ codes "standard input: the next command can't be read")
    ⊎ ((line ≡ codes "standard output: the answer can't be printed")
    ⊎ ((line ≡ codes "standard error: a warning can't be printed")
    ⊎ (((path : List ℕ) × (line ≡ path ++ codes ": this file can't be written"))
    ⊎ (((path : List ℕ) × (line ≡ path ++ codes ": this folder can't be made"))
    ⊎ ((path : List ℕ) × (line ≡ path ++ codes ": this file can't be read"))))))

-- WHY A USER CAN'T GO ON: as many lines as are read are counted; a stream of the user, a file of a
-- run, the folder of its files or a file that a command names failed; or memory ran out
abbrev pub IsReason : Waiting → ExitReason → Type 0
IsReason waiting stop.Spent = IsSpent waiting
IsReason waiting (stop.Failed line error) = IsOfUser (string_bytes line)
IsReason waiting (stop.NoMemory _) = Unit {0}
IsReason waiting _ = ⊥
