-- How what gives or takes bytes counts its failures and its ends.
use Rattle.std.specs.Prelude.{ℕ, ◌+◌, ◌^◌, ◌%◌, ◌==◌, nat_lt, ◌&&◌, List, length, if◌then◌else◌}

-- one more; the count starts over after the greatest number of 64 bits, so that it can be kept
abbrev pub next_count : ℕ → ℕ
next_count count = (count + 1) % 2 ^ 64

-- the count after a call that took or gave so many of these bytes: none of some bytes is counted
abbrev pub count_behind : ℕ → List ℕ → ℕ → ℕ
count_behind n bytes count = if n == 0 && nat_lt 0 (length bytes) then next_count count else count
