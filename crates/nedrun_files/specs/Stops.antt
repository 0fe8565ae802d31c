-- Why the program ends early at a file or a stream.
use Rattle.std.specs.Prelude.{◌≡◌, ◌⊎◌, ℕ, List, ◌++◌, Result, Ok, Err, Contains, String, codes}
use Rattle.std.specs.String.{string_bytes}
use Rattle.std.specs.IoError.{error_kind}
use Rattle.std.specs.declared.io.ErrorKind.TheVariants as system
use Rattle.nedrun_exit.specs.Stops.{Fails, status_of}
use Rattle.nedrun_exit.specs.declared.stops.ExitReason.{ExitReason}
use Rattle.nedrun_exit.specs.declared.stops.ExitReason.TheVariants as stop
use Rattle.nedrun_files.specs.Paths.{file_path}

-- the file of that path can't be written
abbrev pub IsUnwritable : List ℕ → ExitReason → Type 0
IsUnwritable path s = Fails (codes "this file can't be written") path s

-- memory ran out for the file of that path, or for what tells so
abbrev pub IsShortOf : List ℕ → ExitReason → Type 0
IsShortOf path (stop.Failed line error) =
    (string_bytes line ≡ path ++ (codes ": " ++ codes "this file can't be written"))
    × (error_kind error ≡ system.OutOfMemory)
IsShortOf path (stop.NoMemory _) = Unit {0}
IsShortOf path _ = ⊥

-- memory ran out for one of both files of a run of that configuration
abbrev pub IsShortOfRun : List ℕ → List ℕ → ExitReason → Type 0
IsShortOfRun directory config s = IsShortOf (file_path directory config (codes "sca")) s
    ⊎ IsShortOf (file_path directory config (codes "vec")) s

-- an answer can't be printed
abbrev pub IsUnsaid : ExitReason → Type 0
IsUnsaid s = Fails (codes "the answer can't be printed") (codes "standard output") s

-- diagnostics can't be printed
abbrev pub IsUnadvised : ExitReason → Type 0
IsUnadvised s = Fails (codes "a warning can't be printed") (codes "standard error") s

-- a file of that path can't be read
abbrev pub IsUnreadable : List ℕ → ExitReason → Type 0
IsUnreadable path s = Fails (codes "this file can't be read") path s

-- a folder can't be read
abbrev pub IsUnlisted : ExitReason → Type 0
IsUnlisted s = (path : List ℕ) × Fails (codes "this folder can't be read") path s

-- one of the files of these paths can't be read
abbrev pub IsOneUnreadable : {A : Type 0} → List (String A) → ExitReason → Type 0
IsOneUnreadable {A} paths (stop.Failed line error) =
    (path : String A) × Contains paths path
    × (string_bytes line ≡ string_bytes path ++ (codes ": " ++ codes "this file can't be read"))
IsOneUnreadable paths (stop.NoMemory _) = Unit {0}
IsOneUnreadable paths _ = ⊥

-- THE STATUS OF THE PROGRAM: 0 where it did not end early; else the one of the reason, or 1 where
-- that can't be told
abbrev pub IsStatus : Result Unit ExitReason → ℕ → Type 0
IsStatus (Ok _) status = status ≡ 0
IsStatus (Err s) status = (status ≡ status_of s) ⊎ (status ≡ 1)
