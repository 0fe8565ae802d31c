-- Sets of names: one name more.
use Rattle.std.proofs.Common.{◌≡◌, ℕ, Bool, true, false, ◌||◌, List, [], ◌∷◌, ◌++◌, refl, ap, bytes_eq, Bor}
use Rattle.std.specs.List.{list_any}
use Rattle.ned_inheritance.specs.Seen.{names_in}

-- ---- of one of several names

pub or_false : (a : Bool) → (a || false) ≡ a
or_false true = refl
or_false false = refl

pub any_more : (x y : List ℕ) (names : List (List ℕ)) → list_any (bytes_eq y) (names ++ x ∷ []) ≡ (list_any (bytes_eq y) names || bytes_eq y x)
any_more x y [] = or_false (bytes_eq y x)
any_more x y (n ∷ names) = by (bytes_eq y n) (any_more x y names)
  where
    by : (t : Bool) → list_any (bytes_eq y) (names ++ x ∷ []) ≡ (list_any (bytes_eq y) names || bytes_eq y x) → (t || list_any (bytes_eq y) (names ++ x ∷ [])) ≡ ((t || list_any (bytes_eq y) names) || bytes_eq y x)
    by true later = refl
    by false later = later

pub mixed : (a b c d : Bool) → ((a || b) || (c || d)) ≡ ((a || c) || (b || d))
mixed true b c d = refl
mixed false b true d = by b
  where
    by : (b : Bool) → (b || true) ≡ true
    by true = refl
    by false = refl
mixed false b false d = refl

pub or_joined : (a b c : Bool) → ((a || b) || c) ≡ (a || (b || c))
or_joined true b c = refl
or_joined false b c = refl

-- ---- the set

pub any_name : (k : Bor (List ℕ)) (keys : List (Bor (List ℕ))) → list_any (λ (y : Bor (List ℕ)). bytes_eq k.now y.now) keys ≡ list_any (bytes_eq k.now) (names_in keys)
any_name k [] = refl
any_name k (y ∷ keys) = ap (λ t. bytes_eq k.now y.now || t) (any_name k keys)

pub names_more : (keys : List (Bor (List ℕ))) (k : Bor (List ℕ)) → names_in (keys ++ k ∷ []) ≡ names_in keys ++ k.now ∷ []
names_more [] k = refl
names_more (y ∷ keys) k = ap (λ ns. y.now ∷ ns) (names_more keys k)
