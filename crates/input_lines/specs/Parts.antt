-- What one read gives.
use Rattle.std.specs.Prelude.{◌≡◌, ℕ, ◌≤◌, ◌<◌, List, ◌++◌, length}
use Rattle.sim_values.specs.Counts.{next_count}
use Rattle.input_lines.specs.Limits.{chunk}

-- The source gave so many bytes more, which stand after those that are held now. Where it gave none
-- it was at its end.
pub record IsPart (given : List ℕ) (ends : ℕ) (held : List ℕ) (given' : List ℕ) (ends' : ℕ)
    (held' : List ℕ) (n : ℕ) : Type 0 where
  pub bytes : List ℕ
  pub gave : given' ≡ given ++ bytes
  pub kept : held' ≡ held ++ bytes
  pub count : length bytes ≡ n
  pub within : n ≤ chunk
  pub ended : n ≡ 0 → ends' ≡ next_count ends
  pub goes_on : 0 < n → ends' ≡ ends
