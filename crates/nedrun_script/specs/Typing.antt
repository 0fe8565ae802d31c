-- What was asked.
use Rattle.std.specs.Prelude.{◌≡◌, ◌⊎◌, ℕ, ◌<◌, ◌≤◌, Bool, true, false, List, [], ◌∷◌, ◌++◌, Option}
use Rattle.std.specs.Prelude.{Some, None, Result, Ok, Err, codes, length}
use Rattle.std.specs.Fmt.{decimal}
use Rattle.std.specs.Str.{IsTrimAsciiEnd}
use Rattle.input_lines.specs.Feeds.{has_feed}
use Rattle.input_lines.specs.Limits.{longest}
use Rattle.input_lines.specs.Waits.{Waiting}
use Rattle.nedrun_exit.specs.declared.stops.ExitReason.{ExitReason}
use Rattle.transcripts.specs.declared.asked.AskedLine.{AskedLine}
use Rattle.transcripts.specs.declared.asked.AskedLine.TheVariants as asked
use Rattle.nedrun_script.specs.declared.dialogue.Ask.{Ask}
use Rattle.nedrun_script.specs.declared.dialogue.Ask.TheVariants as ask

-- These bytes begin with this line, and then come the others: a line feed parts them; or nothing
-- does, as where the source was at its end after the line, which then is not empty.
abbrev pub BeginsWithLine : List ℕ → List ℕ → List ℕ → Type 0
BeginsWithLine all line rest = (all ≡ line ++ 10 ∷ rest)
    ⊎ ((all ≡ line ++ rest) × (0 < length line))

-- what a line says is the line itself; or also, where it was typed at a terminal, the line without
-- the blanks at its end
abbrev pub IsTyped : Bool → List ℕ → List ℕ → Type 0
IsTyped true text line = (text ≡ line) ⊎ IsTrimAsciiEnd line text
IsTyped false text line = text ≡ line

-- what is asked for what a line says: that; or, in the place of `undo`, a command of the program's
-- own
abbrev pub IsMeant : List ℕ → List ℕ → Type 0
IsMeant text said = (text ≡ said) ⊎ (said ≡ codes "undo")

-- what the line says is asked, where it is not too long
abbrev pub IsAskedAs : Bool → AskedLine → List ℕ → Type 0
IsAskedAs at_terminal (asked.Line text) line =
    (said : List ℕ) × IsTyped at_terminal said line × IsMeant text said × (length line ≤ longest)
IsAskedAs at_terminal asked.TooLong line = longest < length line

-- a line is asked that stands at the front of these bytes
pub record IsFirstLine (at_terminal : Bool) (all : List ℕ) (a : AskedLine)
    (rest : List ℕ) : Type 0 where
  pub line : List ℕ
  pub begins : BeginsWithLine all line rest
  pub one : has_feed line ≡ false
  pub told : IsAskedAs at_terminal a line

-- THE LINES at the front of these bytes are asked, one after the other, and none is left out; the
-- rest of the bytes follows
abbrev pub AreLines : Bool → List AskedLine → List ℕ → List ℕ → Type 0
AreLines at_terminal [] all rest = all ≡ rest
AreLines at_terminal (a ∷ asks) all rest = (next : List ℕ) × IsFirstLine at_terminal all a next
    × AreLines at_terminal asks next rest

abbrev pub run_line : ℕ → AskedLine
run_line limit = asked.Line (codes "run " ++ decimal limit)

abbrev pub write_line : AskedLine
write_line = asked.Line (codes "write")

abbrev pub quit_line : AskedLine
quit_line = asked.Line (codes "quit")

-- WHAT IS ASKED: first the run to the limit of the words, then to write its files, and then the
-- lines that standard input gave, at a terminal or not. Where nothing more is asked, the line after
-- those says `quit`.
abbrev pub AsksInOrder : ℕ → Bool → Ask → List AskedLine → List ℕ → Waiting → Type 0
AsksInOrder limit at_terminal ask.Run asks given waiting = (asks ≡ []) × (given ≡ waiting.bytes)
AsksInOrder limit at_terminal ask.Write asks given waiting =
    (asks ≡ run_line limit ∷ []) × (given ≡ waiting.bytes)
AsksInOrder limit at_terminal ask.Line asks given waiting =
    (typed : List AskedLine) × (asks ≡ run_line limit ∷ write_line ∷ typed)
    × AreLines at_terminal typed given waiting.bytes
AsksInOrder limit at_terminal ask.Nothing asks given waiting =
    (typed : List AskedLine) × (asks ≡ run_line limit ∷ write_line ∷ typed)
    × AreLines at_terminal (typed ++ quit_line ∷ []) given waiting.bytes

-- one thing more is asked, and less is left to be asked; or nothing is asked
abbrev pub AsksNext : List AskedLine → ℕ → Result (Option AskedLine) ExitReason → List AskedLine
    → ℕ → Type 0
AsksNext asks left (Ok (Some a)) asks' left' = (asks' ≡ asks ++ a ∷ []) × (left' < left)
AsksNext asks left (Ok None) asks' left' = asks' ≡ asks
AsksNext asks left (Err stop) asks' left' = asks' ≡ asks
