-- States of two numbers: 16 bytes, each number in 8 of them, the highest first.
use Rattle.std.specs.Prelude.{ℕ, ◌++◌, take, drop, Option}
use Rattle.std.specs.Option.{option_and_then, option_map}
use Rattle.module_api.specs.Behaviour.{State}
use Rattle.module_parts.specs.Numbers.{state_of, read_number}
use Rattle.module_parts.specs.declared.pairs.Pair.{Pair}

abbrev pub paired : ℕ → ℕ → Pair
paired a b = record { first = a; second = b }

abbrev pub pair_bytes : Pair → State
pair_bytes p = state_of p.first ++ state_of p.second

-- the numbers of the first 8 bytes and of all that is behind these
abbrev pub read_pair : State → Option Pair
read_pair state = option_and_then
    (λ a. option_map (λ b. paired a b) (read_number (drop 8 state)))
    (read_number (take 8 state))
