-- Types that are known by their full names.
use Rattle.std.specs.Prelude.{ℕ, Bool, List, [], ◌∷◌, ◌++◌, map, Option, None, if◌then◌else◌}
use Rattle.std.specs.List.{list_any}
use Rattle.std.specs.Str.{bytes_eq}
use Rattle.ned_scopes.specs.declared.known.Known.{Known}

-- the types that stand in a map
abbrev pub known_at : List (List ℕ × Option (List ℕ)) → List Known
known_at entries = map (λ (e : List ℕ × Option (List ℕ)). record { name = e.0; base = e.1 }) entries

-- whether one of them has that full name
abbrev pub is_known : List Known → List ℕ → Bool
is_known known name = list_any (λ k. bytes_eq name k.name) known

-- what the one of that full name extends, as it is written
abbrev pub base_named : List Known → List ℕ → Option (List ℕ)
base_named [] name = None
base_named (k ∷ ks) name = if bytes_eq name k.name then k.base else base_named ks name

-- one more, unless its name is known
abbrev pub once_behind : List Known → Known → List Known
once_behind known k = if is_known known k.name then known else known ++ k ∷ []

abbrev pub all_behind : List Known → List Known → List Known
all_behind known [] = known
all_behind known (k ∷ ks) = all_behind (once_behind known k) ks
