-- The path of the module around.
use Rattle.std.proofs.Common.{◌≡◌, ◌∙◌, ℕ, ◌==◌, Bool, true, false, ◌||◌, List, [], ◌∷◌, ◌++◌}
use Rattle.std.proofs.Common.{if◌then◌else◌, refl, ap}
use Rattle.module_parts.specs.Paths.{has_dot, parent_path, path_in}

either_dot : (b : Bool) → (b || true) ≡ true
either_dot true = refl
either_dot false = refl

dot_in : (path name : List ℕ) → has_dot (path_in path name) ≡ true
dot_in [] name = refl
dot_in (c ∷ cs) name = ap (λ b. (c == 46) || b) (dot_in cs name) ∙ either_dot (c == 46)

-- THE MODULE AROUND is found by the path of what is in it, whose name has no dot
pub parent_of_path_in : (path name : List ℕ) → has_dot name ≡ false
    → parent_path (path_in path name) ≡ path
parent_of_path_in [] name h = ap (λ b. if b then 46 ∷ parent_path name else []) h
parent_of_path_in (c ∷ cs) name h =
    ap (λ b. if b then c ∷ parent_path (path_in cs name) else []) (dot_in cs name)
    ∙ ap (λ path. c ∷ path) (parent_of_path_in cs name h)

-- ---- from the end of a path

other_dots : (before : List ℕ) (c : ℕ) → (c == 46) ≡ false
    → has_dot (before ++ c ∷ []) ≡ has_dot before
other_dots [] c h = ap (λ b. b || false) h
other_dots (x ∷ xs) c h = ap (λ b. (x == 46) || b) (other_dots xs c h)

-- a last byte that is no dot counts for nothing
pub parent_past : (before : List ℕ) (c : ℕ) → (c == 46) ≡ false
    → parent_path (before ++ c ∷ []) ≡ parent_path before
parent_past [] c h = refl
parent_past (x ∷ xs) c h =
    ap (λ b. if b then x ∷ parent_path (xs ++ c ∷ []) else []) (other_dots xs c h)
    ∙ ap (λ path. if has_dot xs then x ∷ path else []) (parent_past xs c h)

-- all before a last dot is the path
pub parent_before : (before : List ℕ) → parent_path (before ++ 46 ∷ []) ≡ before
parent_before before = parent_of_path_in before [] refl
