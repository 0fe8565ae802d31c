-- Words of command lines: each is separated from the next by one space.
use Rattle.std.specs.Prelude.{ℕ, ◌+◌, ◌==◌, Bool, ◌&&◌, not, List, Option, Some, None, option_map}
use Rattle.std.specs.Prelude.{length, position, take, drop, if◌then◌else◌}
use Rattle.std.specs.List.{list_any, slice_split, starts_with}
use Rattle.std.specs.Option.{option_and_then}
use Rattle.std.specs.Str.{is_utf8}
use Rattle.desk_commands.specs.Numbers.{number_of, short_of}

abbrev pub is_space : ℕ → Bool
is_space b = b == 32

-- what stands after these bytes, where the line begins with them
abbrev pub behind : List ℕ → List ℕ → Option (List ℕ)
behind first line = if starts_with (λ a b. a == b) line first
    then Some (drop (length first) line) else None

-- all words: what stands between the spaces
abbrev pub words_of : List ℕ → List (List ℕ)
words_of bytes = slice_split is_space bytes

-- the first word, with all that stands after the space that ends it
abbrev pub parted_at : List ℕ → Option ℕ → Option (List ℕ × List ℕ)
parted_at bytes None = None
parted_at bytes (Some at) = Some (take at bytes, drop (at + 1) bytes)

abbrev pub parted : List ℕ → Option (List ℕ × List ℕ)
parted bytes = parted_at bytes (position is_space bytes)

-- the number of the first word, with all that stands after the space that ends it
abbrev pub numbered : List ℕ → Option (ℕ × List ℕ)
numbered bytes = option_and_then (λ p. option_map (λ n. (n, p.1)) (number_of p.0)) (parted bytes)

-- the number of 32 bits of the first word, with all that stands after the space that ends it
abbrev pub short_numbered : List ℕ → Option (ℕ × List ℕ)
short_numbered bytes =
    option_and_then (λ p. option_map (λ n. (n, p.1)) (short_of p.0)) (parted bytes)

-- one word, which is UTF-8
abbrev pub is_word : List ℕ → Bool
is_word bytes = is_utf8 bytes && not (list_any is_space bytes)

abbrev pub word_of : List ℕ → Option (List ℕ)
word_of bytes = if is_word bytes then Some bytes else None

-- the first word, where it is UTF-8, and all that stands after the space that ends it
abbrev pub named : List ℕ → Option (List ℕ × List ℕ)
named bytes = option_and_then (λ p. option_map (λ name. (name, p.1)) (word_of p.0)) (parted bytes)
