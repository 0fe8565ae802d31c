-- What stands below a module, by the one around each.
use Rattle.std.specs.Prelude.{ℕ, zero, suc, max, not, List, [], ◌∷◌}
use Rattle.std.specs.List.{filter}
use Rattle.child_table.specs.Children.{children_of}
use Rattle.run_semantics.specs.Subtree.{among}

-- the greatest of these numbers of some ids, or that one
abbrev pub greatest : (ℕ → ℕ) → ℕ → List ℕ → ℕ
greatest f n [] = n
greatest f n (id ∷ ids) = greatest f (max n (f id)) ids

-- the greatest id below a module, so many levels at most, or its own
abbrev pub last_below : ℕ → List ℕ → ℕ → ℕ
last_below zero around id = id
last_below (suc depth) around id = greatest (last_below depth around) id (children_of id around)

-- the submodules of a module that are not dead
abbrev pub living_below : List ℕ → List ℕ → ℕ → List ℕ
living_below around dead id = filter (λ n. not (among n dead)) (children_of id around)
