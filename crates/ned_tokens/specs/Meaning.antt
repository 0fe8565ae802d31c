-- What a text means by a rule, and which line may be named where it means nothing.
use Rattle.std.specs.Prelude.{◌≡◌, ℕ, ◌≤◌, ◌++◌, length, ◌⊎◌}
use Rattle.sim_values.specs.Limits.{max_length}
use Rattle.ned_tokens.specs.Runs.{Bytes}
use Rattle.ned_tokens.specs.Rule.{Rule}
use Rattle.ned_tokens.specs.Lines.{tokens_of, last_line, through_line}

-- THE MEANING of a text by a rule: it is small enough, and its tokens spell this value.
pub record Means {X : Type 0} (r : Rule X) (bytes : Bytes) (x : X) : Type 0 where
  pub small : length bytes ≤ max_length
  pub spells : r.Is (tokens_of bytes) x

-- no text with a meaning begins so
abbrev pub NoneBegins : {X : Type 0} → Rule X → Bytes → Type 0
NoneBegins {X} r front = (more : Bytes) (x : X) → Means r (front ++ more) x → ⊥

-- The line that a refused text is given: that of its last byte, or one up to whose end no text with
-- a meaning begins as this does.
abbrev pub MayBlame : {X : Type 0} → Rule X → Bytes → ℕ → Type 0
MayBlame r bytes line = (line ≡ last_line bytes) ⊎ NoneBegins r (through_line line bytes)
