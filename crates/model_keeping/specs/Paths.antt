-- Kept values as places, each with the path of the ini text that its key reads.
use Rattle.std.specs.Prelude.{ℕ, List, Option, Some, None}
use Rattle.inside_keys.specs.declared.found.Found.{Found}
use Rattle.inside_keys.specs.declared.key.Key.{Key}
use Rattle.inside_edits.specs.Reads.{path_read}
use Rattle.param_keeping.specs.Stores.{key_at}

abbrev pub path_of_key : Option Key → Option (List ℕ)
path_of_key None = None
path_of_key (Some k) = path_read k

-- the path that the key at a place reads, if any
abbrev pub path_of_place : List (Key × Found) → ℕ → Option (List ℕ)
path_of_place es p = path_of_key (key_at es p)
