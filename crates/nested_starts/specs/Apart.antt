-- Lists in which no id stands twice.
use Rattle.std.specs.Prelude.{◌≢◌, ℕ, List, [], ◌∷◌}
use Rattle.run_semantics.specs.Laws.{Each}

abbrev pub AreApart : List ℕ → Type 0
AreApart [] = Unit {0}
AreApart (id ∷ ids) = Each (λ other. other ≢ id) ids × AreApart ids
