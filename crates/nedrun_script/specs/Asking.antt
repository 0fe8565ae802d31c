-- What is asked next, and how often something may be asked still.
use Rattle.std.specs.Prelude.{◌≡◌, ◌⊎◌, ℕ, ◌+◌, ◌-◌, [], Option, None, Result, IfOk, IfErr, codes}
use Rattle.std.specs.String.{string_bytes}
use Rattle.input_lines.specs.Limits.{most_lines}
use Rattle.input_lines.specs.Waits.{Waiting, IsSpent}
use Rattle.sim_values.specs.Counts.{next_count}
use Rattle.transcripts.specs.declared.asked.AskedLine.{AskedLine}
use Rattle.nedrun_exit.specs.Stops.{IsOutOfMemory}
use Rattle.nedrun_exit.specs.declared.stops.ExitReason.{ExitReason}
use Rattle.nedrun_exit.specs.declared.stops.ExitReason.TheVariants as stop
use Rattle.nedrun_script.specs.Typing.{AsksInOrder, AsksNext}
use Rattle.nedrun_script.specs.declared.dialogue.Ask.{Ask}
use Rattle.nedrun_script.specs.declared.dialogue.Ask.TheVariants as ask
use Rattle.nedrun_script.specs.declared.dialogue.Dialogue.{Dialogue}

-- what is asked still before a line is read
abbrev pub firsts : Ask → ℕ
firsts ask.Run = 2
firsts ask.Write = 1
firsts ask.Line = 0
firsts ask.Nothing = 0

-- that, and the lines that are handed out still
abbrev pub left_of : Ask → Waiting → ℕ
left_of a waiting = firsts a + (most_lines - waiting.counted)

-- WHY A LINE ISN'T READ: as many lines as are read are counted; standard input failed, once more;
-- or memory ran out
abbrev pub IsUnread : ℕ → ℕ → Waiting → ExitReason → Type 0
IsUnread failures failures' waiting stop.Spent = IsSpent waiting × (failures' ≡ failures)
IsUnread failures failures' waiting (stop.Failed line error) =
    (string_bytes line ≡ codes "standard input: the next command can't be read")
    × (failures' ≡ next_count failures)
IsUnread failures failures' waiting (stop.NoMemory _) = Unit {0}
IsUnread failures failures' waiting _ = ⊥

-- why nothing is asked: memory ran out; or, where a line is to be asked, it isn't read
abbrev pub IsUnasked : Ask → ℕ → ℕ → Waiting → ExitReason → Type 0
IsUnasked ask.Run failures failures' waiting s = IsOutOfMemory s
IsUnasked ask.Write failures failures' waiting s = IsOutOfMemory s
IsUnasked ask.Line failures failures' waiting s = IsUnread failures failures' waiting s
IsUnasked ask.Nothing failures failures' waiting s = ⊥

module _ {I : Type 0} where
  -- what was asked is in its order
  abbrev pub IsInOrder : Dialogue I → Type 0
  IsInOrder d = AsksInOrder d.limit d.at_terminal d.ask d.transcript.asked
      d.lines.source.given.bytes d.lines.buffer

  -- how often something may be asked still
  abbrev pub left_in : Dialogue I → ℕ
  left_in d = left_of d.ask d.lines.buffer

  -- nothing that standard input gave is left unasked; or the line `quit` was read
  abbrev pub HasAskedAll : Dialogue I → Type 0
  HasAskedAll d = ((d.ask ≡ ask.Line) × (d.lines.buffer.bytes ≡ [])) ⊎ (d.ask ≡ ask.Nothing)

  -- WHAT ASKING COMES TO, of the dialogue before and after it.
  pub record Asks (before : Dialogue I) (answer : Result (Option AskedLine) ExitReason)
      (after : Dialogue I) : Type 0 where
    -- what was asked is in its order
    pub kept : IsInOrder after
    -- one thing more is asked, and less is left to be asked; or nothing is asked
    pub next : AsksNext before.transcript.asked (left_in before) answer after.transcript.asked
        (left_in after)
    -- there is nothing more to ask only where nothing that standard input gave is left unasked, or
    -- after `quit`
    pub over : IfOk answer (λ next. next ≡ None → HasAskedAll after)
    -- where nothing can be asked, that is why
    pub unasked : IfErr answer (IsUnasked before.ask before.lines.source.failures
        after.lines.source.failures after.lines.buffer)
    -- the limit is that from before, and the terminal
    pub limit : after.limit ≡ before.limit
    pub at_terminal : after.at_terminal ≡ before.at_terminal
    -- nothing is known of a further run
    pub has_fault : after.has_fault ≡ before.has_fault
    -- nothing more is heard
    pub heard : after.transcript.heard ≡ before.transcript.heard
