-- The first token that can't go on.
use Rattle.std.specs.Prelude.{◌≡◌, ℕ, List, [], ◌∷◌, ◌++◌, length}
use Rattle.ned_tokens.specs.declared.token.Token.{Token}
use Rattle.ned_tokens.specs.Runs.{Bytes}
use Rattle.ned_tokens.specs.Rule.{Rule}
use Rattle.ned_tokens.specs.Lines.{tokens_of, blamed_line}

-- some spelling begins with these tokens
abbrev pub CanGoOn : {X : Type 0} → Rule X → List Token → Type 0
CanGoOn {X} r front = (other : List Token) × (x : X) × r.Is (front ++ other) x

-- no spelling begins with these tokens and the first of those
abbrev pub IsBad : {X : Type 0} → Rule X → List Token → List Token → Type 0
IsBad r front [] = Unit {0}
IsBad r front (t ∷ more) = CanGoOn r (front ++ t ∷ []) → ⊥

-- This many tokens are left at the first that can't go on: some spelling begins with those before
-- it, and none with it too. With none left the tokens ran out, and some spelling begins with all of
-- them.
pub record IsFirstBad {X : Type 0} (r : Rule X) (ts : List Token) (left : ℕ) : Type 0 where
  pub front : List Token
  pub rest : List Token
  pub parts : ts ≡ front ++ rest
  pub count : length rest ≡ left
  pub before : CanGoOn r front
  pub bad : IsBad r front rest

-- the line of the first token that can't go on; where the tokens ran out, that of the last byte
abbrev pub IsFirstBadLine : {X : Type 0} → Rule X → Bytes → ℕ → Type 0
IsFirstBadLine r bytes line =
    (left : ℕ) × IsFirstBad r (tokens_of bytes) left × (line ≡ blamed_line bytes left)
