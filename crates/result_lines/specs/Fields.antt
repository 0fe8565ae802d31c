-- Parts of the lines of a result file.
use Rattle.std.specs.Prelude.{ℕ, List, [], ◌∷◌, ◌++◌}

-- a text, and the byte that ends it
abbrev pub field : List ℕ → ℕ → List ℕ
field text end = text ++ end ∷ []
