-- Line feeds, which end lines.
use Rattle.std.specs.Prelude.{◌≡◌, ℕ, ◌<◌, ◌==◌, Bool, false, List, length, take, slice_index}
use Rattle.std.specs.List.{list_any}

-- a line feed is the byte 10
abbrev pub is_feed : ℕ → Bool
is_feed byte = byte == 10

-- whether a line feed stands among these bytes
abbrev pub has_feed : List ℕ → Bool
has_feed bytes = list_any is_feed bytes

-- the first line feed of these bytes stands at that place
pub record IsFirstFeed (bytes : List ℕ) (place : ℕ) : Type 0 where
  pub within : place < length bytes
  pub before : has_feed (take place bytes) ≡ false
  pub is : slice_index bytes place ≡ 10
