-- How much a model's texts may have.
use Rattle.std.specs.Prelude.{ℕ, ◌^◌}

-- the longest text, in bytes: 1 MiB
abbrev pub max_length : ℕ
max_length = 2 ^ 20
