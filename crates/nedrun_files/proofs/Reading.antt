-- Files that are read.
use Rattle.std.proofs.Common.{◌≡◌, ◌<◌, ℕ, List, String, string_bytes, get_or, length, sym, codes}
use Rattle.std.specs.declared.io.Error.{Error as SystemError}
use Rattle.nedrun_exit.specs.Stops.{IsFailed}
use Rattle.nedrun_exit.specs.declared.stops.ExitReason.{ExitReason}
use Rattle.nedrun_exit.specs.declared.stops.ExitReason.TheVariants as stop
use Rattle.nedrun_files.specs.Stops.{IsOneUnreadable}

pub one_unreadable : {A : Type 0} (paths : List (String A)) (number : ℕ) (path : String A) (error : SystemError) (s : ExitReason) → path ≡ get_or paths number path
    → number < length paths → IsFailed (codes "this file can't be read") (string_bytes path) error s → IsOneUnreadable paths s
one_unreadable paths number path error stop.Spent e l h = h
one_unreadable paths number path error stop.Fault e l h = h
one_unreadable paths number path error (stop.Failed line told) e l h = (path, (number, l, sym e), h.0)
one_unreadable paths number path error (stop.NoMemory _) e l h = tt
one_unreadable paths number path error (stop.Words _) e l h = h
one_unreadable paths number path error (stop.Refused _ _) e l h = h
