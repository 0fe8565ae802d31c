-- Why a user can't go on.
use Rattle.std.proofs.Common.{◌≡◌, ◌⊎◌, ℕ, List, inl, inr, sym, subst, Option, Some, None, IsSomeAnd}
use Rattle.input_lines.specs.Waits.{Waiting}
use Rattle.nedrun_script.specs.Asking.{IsUnasked, IsUnread}
use Rattle.nedrun_script.specs.declared.dialogue.Ask.{Ask}
use Rattle.nedrun_script.specs.declared.dialogue.Ask.TheVariants as ask
use Rattle.nedrun_exit.specs.Stops.{IsOutOfMemory}
use Rattle.nedrun_exit.specs.declared.stops.ExitReason.{ExitReason}
use Rattle.nedrun_exit.specs.declared.stops.ExitReason.TheVariants as stop
use Rattle.nedrun_files.specs.Stops.{IsShortOf, IsShortOfRun, IsUnadvised, IsUnreadable, IsUnsaid, IsUnwritable}
use Rattle.nedrun_client.specs.Stops.{IsAskless, IsLost, IsOneUnwritable, IsReason, IsUnmade, IsUntold}

-- ---- reasons

reason_unsaid : (waiting : Waiting) (s : ExitReason) → IsUnsaid s → IsReason waiting s
reason_unsaid waiting stop.Spent h = absurd h
reason_unsaid waiting stop.Fault h = absurd h
reason_unsaid waiting (stop.Failed line error) h = inr (inl h)
reason_unsaid waiting (stop.NoMemory _) h = tt
reason_unsaid waiting (stop.Words _) h = h
reason_unsaid waiting (stop.Refused _ _) h = h

reason_unadvised : (waiting : Waiting) (s : ExitReason) → IsUnadvised s → IsReason waiting s
reason_unadvised waiting stop.Spent h = absurd h
reason_unadvised waiting stop.Fault h = absurd h
reason_unadvised waiting (stop.Failed line error) h = inr (inr (inl h))
reason_unadvised waiting (stop.NoMemory _) h = tt
reason_unadvised waiting (stop.Words _) h = h
reason_unadvised waiting (stop.Refused _ _) h = h

pub reason_untold : (waiting : Waiting) (s : ExitReason) → IsUntold s → IsReason waiting s
reason_untold waiting s (inl h) = reason_unsaid waiting s h
reason_untold waiting s (inr h) = reason_unadvised waiting s h

pub reason_unwritable : (path : List ℕ) (waiting : Waiting) (s : ExitReason) → IsUnwritable path s → IsReason waiting s
reason_unwritable path waiting stop.Spent h = absurd h
reason_unwritable path waiting stop.Fault h = absurd h
reason_unwritable path waiting (stop.Failed line error) h = inr (inr (inr (inl (path, h))))
reason_unwritable path waiting (stop.NoMemory _) h = tt
reason_unwritable path waiting (stop.Words _) h = h
reason_unwritable path waiting (stop.Refused _ _) h = h

pub reason_unreadable : (path : List ℕ) (waiting : Waiting) (s : ExitReason) → IsUnreadable path s → IsReason waiting s
reason_unreadable path waiting stop.Spent h = absurd h
reason_unreadable path waiting stop.Fault h = absurd h
reason_unreadable path waiting (stop.Failed line error) h = inr (inr (inr (inr (inr (path, h)))))
reason_unreadable path waiting (stop.NoMemory _) h = tt
reason_unreadable path waiting (stop.Words _) h = h
reason_unreadable path waiting (stop.Refused _ _) h = h

-- one of both files of a run
pub reason_of_files : (scalars vectors : List ℕ) (W : Type 0) (waiting : Waiting) (s : ExitReason)
    → IsUnwritable scalars s ⊎ (W × IsUnwritable vectors s) → IsReason waiting s
reason_of_files scalars vectors W waiting s (inl h) = reason_unwritable scalars waiting s h
reason_of_files scalars vectors W waiting s (inr h) = reason_unwritable vectors waiting s h.1

pub reason_lost : (waiting : Waiting) (s : ExitReason) → IsLost s → IsReason waiting s
reason_lost waiting s h = reason_unwritable h.0 waiting s h.1

unwritable_short : (path : List ℕ) (s : ExitReason) → IsShortOf path s → IsUnwritable path s
unwritable_short path stop.Spent h = h
unwritable_short path stop.Fault h = absurd h
unwritable_short path (stop.Failed line error) h = h.0
unwritable_short path (stop.NoMemory _) h = tt
unwritable_short path (stop.Words _) h = h
unwritable_short path (stop.Refused _ _) h = h

pub reason_short : (directory config : List ℕ) (waiting : Waiting) (s : ExitReason) → IsShortOfRun directory config s → IsReason waiting s
reason_short directory config waiting s (inl h) = reason_unwritable _ waiting s (unwritable_short _ s h)
reason_short directory config waiting s (inr h) = reason_unwritable _ waiting s (unwritable_short _ s h)

-- a line is not read
reason_unread : (failures failures' : ℕ) (waiting : Waiting) (s : ExitReason) → IsUnread failures failures' waiting s → IsReason waiting s
reason_unread failures failures' waiting stop.Spent h = h.0
reason_unread failures failures' waiting stop.Fault h = absurd h
reason_unread failures failures' waiting (stop.Failed line told) h = inl h.0
reason_unread failures failures' waiting (stop.NoMemory _) h = tt
reason_unread failures failures' waiting (stop.Words _) h = h
reason_unread failures failures' waiting (stop.Refused _ _) h = h

reason_out_of_memory : (waiting : Waiting) (s : ExitReason) → IsOutOfMemory s → IsReason waiting s
reason_out_of_memory waiting stop.Spent h = absurd h
reason_out_of_memory waiting stop.Fault h = absurd h
reason_out_of_memory waiting (stop.Failed line told) h = absurd h
reason_out_of_memory waiting (stop.NoMemory _) h = tt
reason_out_of_memory waiting (stop.Words _) h = h
reason_out_of_memory waiting (stop.Refused _ _) h = h

-- nothing is asked
reason_unasked : (a : Ask) (failures failures' : ℕ) (waiting : Waiting) (s : ExitReason) → IsUnasked a failures failures' waiting s → IsReason waiting s
reason_unasked ask.Run failures failures' waiting s h = reason_out_of_memory waiting s h
reason_unasked ask.Write failures failures' waiting s h = reason_out_of_memory waiting s h
reason_unasked ask.Line failures failures' waiting s h = reason_unread failures failures' waiting s h
reason_unasked ask.Nothing failures failures' waiting s h = absurd h

reason_unmade : (directory : List ℕ) (waiting : Waiting) (s : ExitReason) → IsUnmade directory s → IsReason waiting s
reason_unmade directory waiting stop.Spent h = absurd h
reason_unmade directory waiting stop.Fault h = absurd h
reason_unmade directory waiting (stop.Failed line error) h = inr (inr (inr (inr (inl (directory, h)))))
reason_unmade directory waiting (stop.NoMemory _) h = tt
reason_unmade directory waiting (stop.Words _) h = h
reason_unmade directory waiting (stop.Refused _ _) h = h

-- the user asks nothing
pub reason_askless : (directory : List ℕ) (a : Ask) (failures failures' : ℕ) (waiting : Waiting) (s : ExitReason)
    → IsAskless directory a failures failures' waiting s → IsReason waiting s
reason_askless directory a failures failures' waiting s (inl h) = reason_unmade directory waiting s h
reason_askless directory a failures failures' waiting s (inr h) = reason_unasked a failures failures' waiting s h

-- a user who can't go on, for that reason
pub stuck_for : (noted : Option ExitReason) (waiting : Waiting) (s : ExitReason) → noted ≡ Some s → IsReason waiting s → IsSomeAnd noted (IsReason waiting)
stuck_for noted waiting s e h = subst (λ (o : Option ExitReason). IsSomeAnd o (IsReason waiting)) (sym e) h

-- one of both files of a run can't be written
pub kept_for : (noted : Option ExitReason) (scalars vectors : List ℕ) (W : Type 0) (s : ExitReason) → noted ≡ Some s
    → IsUnwritable scalars s ⊎ (W × IsUnwritable vectors s) → IsSomeAnd noted (IsOneUnwritable scalars vectors)
kept_for noted scalars vectors W s e (inl h) = subst (λ (o : Option ExitReason). IsSomeAnd o (IsOneUnwritable scalars vectors)) (sym e) (inl h)
kept_for noted scalars vectors W s e (inr h) = subst (λ (o : Option ExitReason). IsSomeAnd o (IsOneUnwritable scalars vectors)) (sym e) (inr h.1)

-- what is there, for another reason
pub for_reason : (P Q : ExitReason → Type 0) (o : Option ExitReason) → ((s : ExitReason) → P s → Q s) → IsSomeAnd o P → IsSomeAnd o Q
for_reason P Q None f h = h
for_reason P Q (Some s) f h = f s h
