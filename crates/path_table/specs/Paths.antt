-- Modules in the order in which they were created, and the first one of a path that lives.
use Rattle.std.specs.Prelude.{ℕ, zero, suc, Bool, not, ◌&&◌, List, [], ◌∷◌, Option, slice_get}
use Rattle.std.specs.List.{position}
use Rattle.std.specs.Option.{option_map}
use Rattle.std.specs.Str.{bytes_eq}
use Rattle.path_table.specs.declared.ModuleAt.{ModuleAt}

-- whether a module is one of that path, and lives
abbrev pub lives_at : List ℕ → ModuleAt → Bool
lives_at path m = bytes_eq m.path path && not m.is_dead

-- THE FIRST MODULE OF A PATH THAT LIVES, where there is one
abbrev pub first_living : List ℕ → List ModuleAt → Option ℕ
first_living path modules = position (lives_at path) modules

-- the path of the module of that number, where there is one
abbrev pub path_at : ℕ → List ModuleAt → Option (List ℕ)
path_at number modules = option_map (λ m. m.path) (slice_get modules number)

-- a module that is dead, or lives
abbrev pub with_flag : ModuleAt → Bool → ModuleAt
with_flag m b = record { path = m.path; is_dead = b }

-- the module of that number is dead, or lives; all others are as they were
abbrev pub with_dead : List ModuleAt → ℕ → Bool → List ModuleAt
with_dead [] number b = []
with_dead (m ∷ ms) zero b = with_flag m b ∷ ms
with_dead (m ∷ ms) (suc number) b = m ∷ with_dead ms number b
