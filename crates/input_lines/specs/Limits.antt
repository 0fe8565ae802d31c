-- How long a line may be, and how many are told.
use Rattle.std.specs.Prelude.{ℕ, ◌^◌}

-- the longest line, in bytes: 64 KiB
abbrev pub longest : ℕ
longest = 2 ^ 16

-- so many lines are counted at most
abbrev pub most_lines : ℕ
most_lines = 1000000

-- how many bytes are asked for at a time
abbrev pub chunk : ℕ
chunk = 4096
