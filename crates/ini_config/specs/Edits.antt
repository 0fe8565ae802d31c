-- Edits of an ini text: the changed lines, their bytes, and why an edit is refused.
use Rattle.std.specs.Prelude.{◌≡◌, ℕ, ◌+◌, ◌-◌, Bool, true, false, ◌&&◌, List, [], ◌∷◌, ◌++◌}
use Rattle.std.specs.Prelude.{length, take, drop, Option, Some, None, Result, Ok, Err, IfErr, ◌==◌}
use Rattle.std.specs.Prelude.{if◌then◌else◌, map, nat_le}
use Rattle.std.specs.List.{list_any}
use Rattle.ini_entries.specs.declared.reason.Reason.TheVariants as reason
use Rattle.ini_config.specs.declared.error.EditError.{EditError}
use Rattle.ini_config.specs.declared.error.EditError.TheVariants as errors
use Rattle.ini_trees.specs.declared.lines.IniLine.{IniLine}
use Rattle.ini_entries.specs.Texts.{Bytes}
use Rattle.sim_values.specs.Limits.{max_length}
use Rattle.ini_config.specs.Meaning.{FirstBad, IsIniText}

-- ---- the changed lines

-- the texts of lines
abbrev pub texts_of : List IniLine → List Bytes
texts_of [] = []
texts_of (line ∷ lines) = line.text ∷ texts_of lines

-- lines with this text between them
abbrev pub with_between : List IniLine → Bytes → List IniLine → List Bytes
with_between before text behind = texts_of before ++ text ∷ texts_of behind

-- whether LF is in a given text, which is then more than a line
abbrev pub holds_feed : Bytes → Bool
holds_feed text = list_any (λ b. b == 10) text

-- there is a line of this number
abbrev pub is_line : ℕ → List IniLine → Bool
is_line n lines = nat_le 1 n && nat_le n (length lines)

-- there is a line of this number, or it is the number after the last
abbrev pub is_place : ℕ → List IniLine → Bool
is_place n lines = nat_le 1 n && nat_le n (length lines + 1)

-- AN EDIT of a text:
pub record Edit : Type 0 where
  -- the lines that it leaves;
  pub lines : List Bytes
  -- the number of the line that it is of, from 1;
  pub number : ℕ
  -- whether the text has such a line, or such a place for one;
  pub found : Bool
  -- whether the line that it gives is broken: LF is in it.
  pub broken : Bool

-- The lines count from 1. Where there is no line of the number, nothing is taken out, and a given
-- text stands at an end. this text stands between lines, as the line of this number
abbrev pub edit_with : List IniLine → Bytes → List IniLine → ℕ → Bool → Edit
edit_with before text behind n found = record {
  lines = with_between before text behind;
  number = n;
  found = found;
  broken = holds_feed text;
}

-- nothing stands between lines, where the line of this number stood
abbrev pub edit_without : List IniLine → List IniLine → ℕ → Bool → Edit
edit_without before behind n found =
    record { lines = texts_of before ++ texts_of behind; number = n; found = found; broken = false }

-- a line of this text is put before line number n
abbrev pub insertion : ℕ → Bytes → List IniLine → Edit
insertion n text lines =
    edit_with (take (n - 1) lines) text (drop (n - 1) lines) n (is_place n lines)

-- a line of this text stands instead of line number n
abbrev pub replacement : ℕ → Bytes → List IniLine → Edit
replacement n text lines = edit_with (take (n - 1) lines) text (drop n lines) n (is_line n lines)

-- line number n is taken out
abbrev pub removal : ℕ → List IniLine → Edit
removal n lines = edit_without (take (n - 1) lines) (drop n lines) n (is_line n lines)

-- THE CHANGED TEXT: its lines, each followed by LF
abbrev pub bytes_of : List Bytes → Bytes
bytes_of [] = []
bytes_of (line ∷ lines) = line ++ 10 ∷ bytes_of lines

-- the text of a changed line, as it is read again: a CR at its end is part of the line's end
abbrev pub without_return : Bytes → Bytes
without_return [] = []
without_return (b ∷ []) = if b == 13 then [] else b ∷ []
without_return (b ∷ c ∷ cs) = b ∷ without_return (c ∷ cs)

-- Where the old text was a text, the new one has the lines that the edit leaves.
abbrev pub HasLines : List IniLine → Edit → List IniLine → Type 0
HasLines old edit edited = (bytes : Bytes) → IsIniText bytes old
    → texts_of edited ≡ map without_return edit.lines

-- What an edit makes: its number is right, the given text is a line, and the new text means what
-- the changed lines say.
pub record IsEdited (edit : Edit) (edited : List IniLine) : Type 0 where
  pub there : edit.found ≡ true
  pub whole : edit.broken ≡ false
  pub means : IsIniText (bytes_of edit.lines) edited

-- this text, or lack of memory
abbrev pub AnswersEdit : List IniLine → Result (List IniLine) EditError → Type 0
AnswersEdit lines (Ok edited) = edited ≡ lines
AnswersEdit lines (Err (errors.NoMemory _)) = Unit {0}
AnswersEdit lines (Err errors.TooLarge) = ⊥
AnswersEdit lines (Err errors.NoSuchLine) = ⊥
AnswersEdit lines (Err (errors.IniSyntax line why)) = ⊥

-- ---- refusals

-- the changed text is no longer than 1 MiB
abbrev pub fits : Edit → Bool
fits edit = nat_le (length (bytes_of edit.lines)) max_length

-- what is wrong, in this order: it doesn't fit; the number is wrong; the line of this number is
-- broken
abbrev pub edit_fault : Bool → Bool → Bool → ℕ → Option EditError
edit_fault false found broken number = Some errors.TooLarge
edit_fault true false broken number = Some errors.NoSuchLine
edit_fault true true true number = Some (errors.IniSyntax number reason.LineEnd)
edit_fault true true false number = None

-- THE REFUSAL of an edit that needs no reading of the changed text
abbrev pub refusal_of : Edit → Option EditError
refusal_of edit = edit_fault (fits edit) edit.found edit.broken edit.number

-- why a changed text that needs reading is refused: its first bad line has this number, and is
-- refused for this reason; memory runs out
abbrev pub RefusesBytes : Bytes → EditError → Type 0
RefusesBytes bytes errors.TooLarge = ⊥
RefusesBytes bytes errors.NoSuchLine = ⊥
RefusesBytes bytes (errors.IniSyntax bad why) = FirstBad bad why bytes
RefusesBytes bytes (errors.NoMemory _) = Unit {0}

-- what comes of an edit that has this refusal, or else whose changed text is read
abbrev pub RefusedBy : Option EditError → Bytes → Result (List IniLine) EditError → Type 0
RefusedBy (Some refusal) bytes result = result ≡ Err refusal
RefusedBy None bytes result = IfErr result (RefusesBytes bytes)

-- An edit is refused by its refusal, whatever memory there is; and one without a refusal only for
-- what reading tells.
abbrev pub Refused : Edit → Result (List IniLine) EditError → Type 0
Refused edit result = RefusedBy (refusal_of edit) (bytes_of edit.lines) result
