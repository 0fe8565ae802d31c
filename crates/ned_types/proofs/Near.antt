-- Where names differ, the type that stands at a place is the first of its name.
use Rattle.std.proofs.Common.{◌≡◌, ◌≢◌, ℕ, zero, suc, Bool, true, false, List, [], ◌∷◌, Some, refl, sym, ap, ◌∙◌, slice_get, bytes_eq, inl, inr, if◌then◌else◌}
use Rattle.std.proofs.lemmas.Slice.Eq.{bytes_eq-Decides}
use Rattle.ned_trees.specs.declared.declarations.TypeDeclaration.{TypeDeclaration}
use Rattle.ned_types.specs.Types.{type_named}
use Rattle.ned_types.specs.WellFormed.{IsAmong, StandsBefore}

pub type_among : (ts : List TypeDeclaration) (k : ℕ) (t : TypeDeclaration) → slice_get ts k ≡ Some t → IsAmong t ts
type_among [] k t e = cc
type_among (u ∷ us) zero t e = let same : t ≡ u = cc in inl same
type_among (u ∷ us) (suc k) t e = inr (type_among us k t e)

pub type_near : (ts : List TypeDeclaration) (k : ℕ) (t : TypeDeclaration) (name : List ℕ) → ((u v : TypeDeclaration) → StandsBefore u v ts → u.name ≢ v.name) → slice_get ts k ≡ Some t → bytes_eq t.name name ≡ true → Some t ≡ type_named name ts
type_near [] k t name own at e = cc
type_near (u ∷ us) zero t name own at e =
    let same : t ≡ u = cc in
    rw (ap (λ (v : TypeDeclaration). bytes_eq v.name name) (sym same) ∙ e) (ap Some same)
type_near (u ∷ us) (suc k) t name own at e = by (bytes_eq u.name name) refl (type_near us k t name (λ v w before. own v w (inr before)) at e)
  where
    by : (b : Bool) → bytes_eq u.name name ≡ b → Some t ≡ type_named name us → Some t ≡ (if b then Some u else type_named name us)
    by true b later = absurd (own u t (inl (refl, type_among us k t at)) ((bytes_eq-Decides u.name name).0 b ∙ sym ((bytes_eq-Decides t.name name).0 e)))
    by false b later = later
