-- Submodules that are found by the places of their names.
use Rattle.std.proofs.Common.{◌≡◌, ℕ, zero, suc, ◌<◌, Bool, true, false, List, [], ◌∷◌, bytes_eq, get_or, length, map, slice_get, Some, refl, sym, ap, ◌∙◌, arith, if◌then◌else◌}
use Rattle.std.proofs.lemmas.Bool.{true≢false}
use Rattle.std.proofs.lemmas.List.Quantifiers.{position-Some}
use Rattle.std.proofs.lemmas.Slice.Eq.{bytes_eq-Decides}
use Rattle.inside_parts.specs.Names.{position_of}
use Rattle.ned_trees.specs.declared.declarations.Submodule.{Submodule}
use Rattle.ned_types.specs.Flat.{submodule_named}

abbrev names_of : List Submodule → List (List ℕ)
names_of ss = map (λ (s : Submodule). s.name) ss

-- two names are compared either way round
turned : (a b : List ℕ) (t : Bool) → bytes_eq a b ≡ t → bytes_eq b a ≡ t
turned a b true h = (bytes_eq-Decides b a).1 (sym ((bytes_eq-Decides a b).0 h))
turned a b false h = by (bytes_eq b a) refl
  where
    by : (t : Bool) → bytes_eq b a ≡ t → t ≡ false
    by false e = refl
    by true e = absurd (true≢false (sym ((bytes_eq-Decides a b).1 (sym ((bytes_eq-Decides b a).0 e))) ∙ h))

-- the first of that name, where those before it have others
first_named : (name : List ℕ) (ss : List Submodule) (i : ℕ) → i < length (names_of ss) → bytes_eq name (get_or (names_of ss) i []) ≡ true → ((k : ℕ) → k < i → bytes_eq name (get_or (names_of ss) k []) ≡ false)
    → submodule_named name ss ≡ slice_get ss i
first_named name [] i within is before = absurd (omega (arith, within))
first_named name (s ∷ ss) zero within is before = ap (λ t. if t then Some s else submodule_named name ss) (turned name s.name true is)
first_named name (s ∷ ss) (suc i) within is before =
    ap (λ t. if t then Some s else submodule_named name ss) (turned name s.name false (before 0 (omega arith)))
    ∙ first_named name ss i (omega (arith, within)) is (λ k l. before (suc k) (omega (arith, l)))

-- THE SUBMODULE OF A NAME stands at the place of the name
pub named_at : (name : List ℕ) (ss : List Submodule) (i : ℕ) → position_of name (names_of ss) ≡ Some i → submodule_named name ss ≡ slice_get ss i
named_at name ss i e =
    let h = position-Some (bytes_eq name) (names_of ss) i [] e in
    first_named name ss i h.0 h.1 h.2
