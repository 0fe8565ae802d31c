-- How much a source is asked for.
use Rattle.std.specs.Prelude.{ℕ, ◌+◌}
use Rattle.sim_values.specs.Limits.{max_length}

-- how many bytes of a text are read at most: one more than a text may have, so that one that is too
-- long is seen to be that
abbrev pub most : ℕ
most = max_length + 1
