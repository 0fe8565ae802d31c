-- What is read of a text.
use Rattle.std.specs.Prelude.{◌≡◌, ◌⊎◌, ℕ, ◌≤◌, ◌<◌, List, ◌++◌, length}
use Rattle.sim_values.specs.Limits.{max_length}
use Rattle.sim_values.specs.Counts.{next_count}
use Rattle.input_texts.specs.Given.{most}
use Rattle.input_texts.specs.declared.reading.ReadFault.{ReadFault}
use Rattle.input_texts.specs.declared.reading.ReadFault.TheVariants as faults

-- THE WHOLE TEXT of a source, up to one byte more than a text may have: the source gave these bytes
-- and no others, and either said then, once, that it was at its end, or there are as many bytes as
-- are read at most.
pub record IsWhole (given : List ℕ) (ends : ℕ) (given' : List ℕ) (ends' : ℕ)
    (text : List ℕ) : Type 0 where
  pub gave : given' ≡ given ++ text
  pub to_the_end : ((length text ≤ max_length) × (ends' ≡ next_count ends))
      ⊎ ((length text ≡ most) × (ends' ≡ ends))

-- The source gave so many bytes more, which stand after the text now. Where it gave none it was at
-- its end.
pub record IsMore (given : List ℕ) (ends : ℕ) (text : List ℕ) (given' : List ℕ) (ends' : ℕ)
    (text' : List ℕ) (n : ℕ) : Type 0 where
  pub bytes : List ℕ
  pub gave : given' ≡ given ++ bytes
  pub kept : text' ≡ text ++ bytes
  pub count : length bytes ≡ n
  pub within : length text' ≤ most
  pub ended : n ≡ 0 → length text < most → ends' ≡ next_count ends
  pub goes_on : 0 < n → ends' ≡ ends

-- why a text isn't read: the source failed, once; or memory ran out, and the source did not fail
abbrev pub Explains : ℕ → ℕ → ReadFault → Type 0
Explains failures failures' (faults.Failed error) = failures' ≡ next_count failures
Explains failures failures' (faults.NoMemory _) = failures' ≡ failures
