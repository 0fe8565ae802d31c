-- Names with a mark after them.
use Rattle.std.proofs.Common.{◌≡◌, ℕ, Bool, true, false, List, ◌++◌, bytes_eq, refl, sym, ap}
use Rattle.std.proofs.lemmas.Slice.Eq.{bytes_eq-Decides}

-- two tests that pass alike are one
same_test : (a b : Bool) → (a ≡ true → b ≡ true) → (b ≡ true → a ≡ true) → a ≡ b
same_test true true f g = refl
same_test true false f g = sym (f refl)
same_test false true f g = g refl
same_test false false f g = refl

-- names are compared either way round
pub same_marked : (gate mark name : List ℕ) → bytes_eq (gate ++ mark) name ≡ bytes_eq name (gate ++ mark)
same_marked gate mark name =
    same_test (bytes_eq (gate ++ mark) name) (bytes_eq name (gate ++ mark))
    (λ e. (bytes_eq-Decides name (gate ++ mark)).1 (sym ((bytes_eq-Decides (gate ++ mark) name).0 e)))
    (λ e. (bytes_eq-Decides (gate ++ mark) name).1 (sym ((bytes_eq-Decides name (gate ++ mark)).0 e)))
