-- What waits in a reader of lines.
use Rattle.std.specs.Prelude.{◌≡◌, ℕ, ◌+◌, ◌*◌, ◌/◌, ◌≤◌, ◌<◌, nat_lt, false, List, [], length}
use Rattle.std.specs.Prelude.{if◌then◌else◌}
use Rattle.input_lines.specs.Feeds.{has_feed}
use Rattle.input_lines.specs.Limits.{longest, most_lines, chunk}

-- The bytes that the source gave and of which no answer has told, in their order; how many of them,
-- at the front, are no longer in memory, since they are of a line that is too long; and how many
-- lines are counted.
pub record Waiting : Type 0 where
  pub bytes : List ℕ
  pub thrown : ℕ
  pub counted : ℕ

-- nothing waits, and no line is counted
abbrev pub nothing : Waiting
nothing = record { bytes = []; thrown = 0; counted = 0 }

-- No line is told any more: with one for each full 65,536 bytes that were thrown away, as many
-- lines are counted as are told.
abbrev pub IsSpent : Waiting → Type 0
IsSpent waiting = most_lines ≤ waiting.counted + waiting.thrown / longest

-- what is thrown away of a line that has not ended yet: all of it, where it is too long
abbrev pub thrown_of : List ℕ → ℕ
thrown_of bytes = if nat_lt longest (length bytes) then length bytes else 0

-- What was thrown away is a front of what waits, and longer than a line may be.
pub record IsSound (waiting : Waiting) : Type 0 where
  pub front : waiting.thrown ≤ length waiting.bytes
  pub long : 0 < waiting.thrown → longest < waiting.thrown

-- all that waits is the front of one line that is too long, and was thrown away
pub record IsLongFront (waiting : Waiting) : Type 0 where
  pub one : has_feed waiting.bytes ≡ false
  pub long : longest < length waiting.bytes
  pub thrown : waiting.thrown ≡ length waiting.bytes

-- What is kept in memory: the front of a line that is too long was thrown away, if any, and the
-- rest is held, which is no more than a line and a part.
pub record IsKept (thrown : List ℕ) (thrown_length : ℕ) (held : List ℕ) (counted : ℕ) : Type 0 where
  pub one : has_feed thrown ≡ false
  pub count : length thrown ≡ thrown_length
  pub long : 0 < thrown_length → longest < thrown_length
  pub front : thrown_length ≤ most_lines * longest + longest + chunk
  pub room : length held ≤ longest + chunk
  pub few : counted ≤ most_lines + 2
