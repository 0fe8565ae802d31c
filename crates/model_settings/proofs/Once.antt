-- Names of which no two are the same, added one by one.
use Rattle.std.proofs.Common.{◌≡◌, ◌≢◌, ◌⊎◌, inl, inr, ℕ, zero, suc, ◌<◌, length, get_or, arith, Bool, true, false, ◌||◌, List, [], ◌∷◌, ◌++◌, map, bytes_eq, Some, refl, subst, sym, ap, ◌∙◌, append-nil, append_assoc, if◌then◌else◌}
use Rattle.std.proofs.lemmas.List.{length-map}
use Rattle.std.proofs.lemmas.List.Folds.{list_any-append}
use Rattle.std.proofs.lemmas.List.Quantifiers.{position-Some}
use Rattle.std.proofs.lemmas.Slice.Eq.{bytes_eq-Decides}
use Rattle.std.specs.List.{list_any}
use Rattle.inside_parts.specs.Names.{is_one, position_of}
use Rattle.inside_keys.specs.Inside.{submodule_names}
use Rattle.ned_trees.specs.declared.declarations.Submodule.{Submodule}
use Rattle.ned_trees.specs.declared.declarations.TypeDeclaration.{TypeDeclaration}
use Rattle.ned_types.specs.WellFormed.{HaveOwnNames, IsAmong, IsWellFormed, StandsBefore}
use Rattle.model_settings.specs.Standings.{names_behind, names_of_types}

-- what isn't true is false
is_false : (b : Bool) → (b ≡ true → ⊥) → b ≡ false
is_false true h = absurd (h refl)
is_false false h = refl

-- a name that is none of these, and isn't that one, is none of both
one_more : (name other : List ℕ) (before : List (List ℕ)) → is_one name before ≡ false → name ≢ other → is_one name (before ++ other ∷ []) ≡ false
one_more name other before new apart =
    list_any-append (bytes_eq name) before (other ∷ [])
    ∙ ap (λ (b : Bool). b || list_any (bytes_eq name) (other ∷ [])) new
    ∙ ap (λ (b : Bool). list_any (λ (x : List ℕ). b) (other ∷ [])) (is_false (bytes_eq name other) (λ e. apart ((bytes_eq-Decides name other).0 e)))

-- where none of them was there before, and no two are the same, all are added
pub all_added : {X : Type 0} (name : X → List ℕ) (xs : List X) (before : List (List ℕ)) → ((x : X) → IsAmong x xs → is_one (name x) before ≡ false)
    → ((x y : X) → StandsBefore x y xs → name x ≢ name y) → names_behind before (map name xs) ≡ before ++ map name xs
all_added name [] before new apart = sym (append-nil before)
all_added name (x ∷ xs) before new apart =
    ap (λ (b : Bool). names_behind (if b then before else before ++ name x ∷ []) (map name xs)) (new x (inl refl))
    ∙ all_added name xs (before ++ name x ∷ []) (λ y among. one_more (name y) (name x) before (new y (inr among)) (λ e. apart x y (inl (refl, among)) (sym e))) (λ y z h. apart y z (inr h))
    ∙ append_assoc before (name x ∷ []) (map name xs)

-- the names of types that keep the rules
pub types_added : (types : List TypeDeclaration) → IsWellFormed types → names_behind [] (names_of_types types) ≡ names_of_types types
types_added types h = all_added (λ (t : TypeDeclaration). t.name) types [] (λ t among. refl) h.names

-- the names of submodules of which no two are the same
pub submodules_added : (t : TypeDeclaration) → HaveOwnNames t.submodules → names_behind [] (map (λ (l : Submodule). l.name) t.submodules) ≡ submodule_names t
submodules_added t h = all_added (λ (l : Submodule). l.name) t.submodules [] (λ l among. refl) h

-- what stands at a place of a list is among it
pub among_at : {X : Type 0} (xs : List X) (i : ℕ) (d : X) → i < length xs → IsAmong (get_or xs i d) xs
among_at [] i d p = absurd (omega (arith, p))
among_at (x ∷ xs) zero d p = inl refl
among_at (x ∷ xs) (suc i) d p = inr (among_at xs i d (omega (arith, p)))

-- the place of a name among those of types is below their number
pub placed_within : (name : List ℕ) (types : List TypeDeclaration) (n : ℕ) → position_of name (names_of_types types) ≡ Some n → n < length types
placed_within name types n e =
    subst (λ (k : ℕ). n < k) (length-map types (λ (t : TypeDeclaration). t.name)) (position-Some (bytes_eq name) (names_of_types types) n [] e).0
