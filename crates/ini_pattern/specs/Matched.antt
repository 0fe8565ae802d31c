-- Whether a pattern matches a name, computed by trying each end that a star can have.
use Rattle.std.specs.Prelude.{ℕ, ◌==◌, Bool, true, false, not, ◌&&◌, ◌||◌, List, [], ◌∷◌, Option}
use Rattle.std.specs.Prelude.{Some, None}
use Rattle.ini_pattern.specs.declared.piece.Piece.{Piece}
use Rattle.ini_pattern.specs.declared.piece.Piece.TheVariants.{AnyPath, AnyName}
use Rattle.ini_pattern.specs.Reading.{left_by}

-- one of all ends of a name passes
abbrev pub any_end : (List ℕ → Bool) → List ℕ → Bool
any_end passes [] = passes []
any_end passes (c ∷ cs) = passes (c ∷ cs) || any_end passes cs

-- one of the ends that stand after no dot, or before the first one, passes
abbrev pub any_near_end : (List ℕ → Bool) → List ℕ → Bool
any_near_end passes [] = passes []
any_near_end passes (c ∷ cs) = passes (c ∷ cs) || (not (c == 46) && any_near_end passes cs)

-- what is left passes
abbrev pub left_passes : (List ℕ → Bool) → Option (List ℕ) → Bool
left_passes passes None = false
left_passes passes (Some rest) = passes rest

-- what a piece can leave of a name passes
abbrev pub passes_behind : (List ℕ → Bool) → Piece → List ℕ → Bool
passes_behind passes AnyPath name = any_end passes name
passes_behind passes AnyName name = any_near_end passes name
passes_behind passes piece name = left_passes passes (left_by piece name)

abbrev pub is_nothing : List ℕ → Bool
is_nothing [] = true
is_nothing (c ∷ cs) = false

-- THE TEST whether a pattern matches a name
abbrev pub is_matched : List Piece → List ℕ → Bool
is_matched [] name = is_nothing name
is_matched (piece ∷ pieces) name = passes_behind (is_matched pieces) piece name
