-- What a reader of lines answers.
use Rattle.std.specs.Prelude.{◌≡◌, ◌⊎◌, ℕ, ◌+◌, ◌≤◌, false, List, [], ◌++◌, length}
use Rattle.sim_values.specs.Counts.{next_count}
use Rattle.input_lines.specs.Feeds.{has_feed}
use Rattle.input_lines.specs.Limits.{chunk}
use Rattle.input_lines.specs.Lines.{IsLine, Tells, lines_of}
use Rattle.input_lines.specs.Waits.{Waiting, IsSpent, IsLongFront}
use Rattle.input_lines.specs.declared.line.NextLine.{NextLine}
use Rattle.input_lines.specs.declared.line.NextLine.TheVariants as answers

-- Of these bytes, which were read after those that waited, all but the last 4,096 at most have no
-- line feed, nor have those that waited: so no more than one part was read after a line feed that
-- was already there.
pub record IsNeeded (waiting more : List ℕ) : Type 0 where
  pub front : List ℕ
  pub last : List ℕ
  pub split : more ≡ front ++ last
  pub part : length last ≤ chunk
  pub clear : has_feed (waiting ++ front) ≡ false

-- the source gave these bytes more, and they were needed
pub record Gives (given waiting given' more : List ℕ) : Type 0 where
  pub gave : given' ≡ given ++ more
  pub needed : (more ≡ []) ⊎ IsNeeded waiting more

-- Nothing is told of these bytes: they wait, and no line is counted. No more of them was thrown
-- away, or all of them were, since they are of one line that is too long.
pub record IsUntold (all : List ℕ) (before after : Waiting) : Type 0 where
  pub bytes : after.bytes ≡ all
  pub counted : after.counted ≡ before.counted
  pub thrown : (after.thrown ≡ before.thrown) ⊎ IsLongFront after

-- the first line of these bytes is told, and the rest of them waits
pub record IsTold (all : List ℕ) (ends count : ℕ) (answer : NextLine) (ends' : ℕ)
    (after : Waiting) : Type 0 where
  pub line : List ℕ
  pub is_line : IsLine all ends line after.bytes ends'
  pub told : Tells answer line
  pub counted : after.counted ≡ count + lines_of (length line)
  pub thrown : after.thrown ≡ 0

-- nothing is left to be told, and the source said that it is at its end
pub record IsEnd (all : List ℕ) (ends count ends' : ℕ) (after : Waiting) : Type 0 where
  pub none : all ≡ []
  pub ended : ends' ≡ next_count ends
  pub bytes : after.bytes ≡ []
  pub counted : after.counted ≡ count
  pub thrown : after.thrown ≡ 0

-- as many lines are counted as are told
pub record IsOver (all : List ℕ) (ends : ℕ) (before : Waiting) (ends' : ℕ)
    (after : Waiting) : Type 0 where
  pub untold : IsUntold all before after
  pub spent : IsSpent after
  pub goes_on : ends' ≡ ends

-- what an answer says of the bytes that waited and those that the source gave
abbrev pub Answers : NextLine → List ℕ → ℕ → Waiting → ℕ → Waiting → Type 0
Answers (answers.Line text) all ends before ends' after =
    IsTold all ends before.counted (answers.Line text) ends' after
Answers answers.TooLong all ends before ends' after =
    IsTold all ends before.counted answers.TooLong ends' after
Answers answers.End all ends before ends' after = IsEnd all ends before.counted ends' after
Answers answers.Spent all ends before ends' after = IsOver all ends before ends' after

-- THE ANSWER of a reader of lines, in words of the bytes that its source gave in the call.
pub record IsNext (given : List ℕ) (ends : ℕ) (before : Waiting) (answer : NextLine)
    (given' : List ℕ) (ends' : ℕ) (after : Waiting) : Type 0 where
  pub more : List ℕ
  pub gives : Gives given before.bytes given' more
  pub answers : Answers answer (before.bytes ++ more) ends before ends' after

-- WHERE THERE IS NO ANSWER, all that the source gave waits; the source may have said that it is at
-- its end.
pub record IsLeft (given : List ℕ) (ends : ℕ) (before : Waiting) (given' : List ℕ) (ends' : ℕ)
    (after : Waiting) : Type 0 where
  pub more : List ℕ
  pub gives : Gives given before.bytes given' more
  pub untold : IsUntold (before.bytes ++ more) before after
  pub ended : (ends' ≡ ends) ⊎ (ends' ≡ next_count ends)
