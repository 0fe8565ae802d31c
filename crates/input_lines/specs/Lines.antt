-- Lines, and how they are told.
use Rattle.std.specs.Prelude.{◌≡◌, ◌⊎◌, ℕ, ◌+◌, ◌/◌, ◌≤◌, ◌<◌, nat_lt, false, List, [], ◌∷◌, ◌++◌}
use Rattle.std.specs.Prelude.{length, if◌then◌else◌}
use Rattle.sim_values.specs.Counts.{next_count}
use Rattle.input_lines.specs.Feeds.{has_feed}
use Rattle.input_lines.specs.Limits.{longest}
use Rattle.input_lines.specs.declared.line.NextLine.{NextLine}
use Rattle.input_lines.specs.declared.line.NextLine.TheVariants as answers

-- A LINE of some bytes, and the rest of them: the bytes up to the first line feed, which is not
-- part of it; or, where the source said that it is at its end, all the bytes, if there are any and
-- no line feed stands among them.
pub record IsLine (all : List ℕ) (ends : ℕ) (line rest : List ℕ) (ends' : ℕ) : Type 0 where
  pub one : has_feed line ≡ false
  pub ended : ((all ≡ line ++ 10 ∷ rest) × (ends' ≡ ends))
      ⊎ ((all ≡ line) × (0 < length line) × (rest ≡ []) × (ends' ≡ next_count ends))

-- the answer to a line: the line itself, or that it is too long
abbrev pub Tells : NextLine → List ℕ → Type 0
Tells (answers.Line text) line = (text ≡ line) × (length line ≤ longest)
Tells answers.TooLong line = longest < length line
Tells answers.End line = ⊥
Tells answers.Spent line = ⊥

-- how many lines a line of so many bytes counts: one, and one more for each full 65,536 bytes of
-- one that is too long
abbrev pub lines_of : ℕ → ℕ
lines_of length = if nat_lt longest length then 1 + length / longest else 1
