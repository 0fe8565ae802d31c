-- Types by their full names: what is found in a map, and what is added.
use Rattle.std.proofs.Common.{◌≡◌, ℕ, Bool, true, false, ◌||◌, List, [], ◌∷◌, ◌++◌, Option, Some, None, refl, sym, ap, ◌∙◌, bytes_eq, if◌then◌else◌, suc, ◌+◌, ◌<◌, length, drop, get_or, drop-cons, add-one}
use Rattle.std.specs.Prelude.{is_some}
use Rattle.std.specs.Map.{lookup}
use Rattle.std.specs.Borrow.{Bor}
use Rattle.std.specs.Option.{option_map}
use Rattle.indexmap.specs.IndexMap.{insert_entry}
use Rattle.ned_trees.specs.declared.declarations.NestedType.{NestedType}
use Rattle.ned_scopes.specs.declared.known.Known.{Known}
use Rattle.ned_scopes.specs.Known.{known_at, is_known, base_named, once_behind, all_behind}

abbrev Entry : Type 0
Entry = List ℕ × Option (List ℕ)

-- ---- what is found

pub is_there : (name : List ℕ) (es : List Entry) → is_some (lookup (λ (k : List ℕ). bytes_eq name k) es) ≡ is_known (known_at es) name
is_there name [] = refl
is_there name (e ∷ es) = by (bytes_eq name e.0) (is_there name es)
  where
    by : (b : Bool) → is_some (lookup (λ (k : List ℕ). bytes_eq name k) es) ≡ is_known (known_at es) name
        → is_some (if b then Some e.1 else lookup (λ (k : List ℕ). bytes_eq name k) es) ≡ (b || is_known (known_at es) name)
    by true later = refl
    by false later = later

pub base_there : (name : List ℕ) (es : List Entry) (base : Option (List ℕ)) → lookup (λ (k : List ℕ). bytes_eq name k) es ≡ Some base → base_named (known_at es) name ≡ base
base_there name [] base found = absurd cc
base_there name (e ∷ es) base found = by (bytes_eq name e.0) found (base_there name es base)
  where
    by : (b : Bool) → (if b then Some e.1 else lookup (λ (k : List ℕ). bytes_eq name k) es) ≡ Some base → (lookup (λ (k : List ℕ). bytes_eq name k) es ≡ Some base → base_named (known_at es) name ≡ base)
        → (if b then e.1 else base_named (known_at es) name) ≡ base
    by true found later = cc
    by false found later = later found

pub none_there : (name : List ℕ) (es : List Entry) → lookup (λ (k : List ℕ). bytes_eq name k) es ≡ None → base_named (known_at es) name ≡ None
none_there name [] none = refl
none_there name (e ∷ es) none = by (bytes_eq name e.0) none (none_there name es)
  where
    by : (b : Bool) → (if b then Some e.1 else lookup (λ (k : List ℕ). bytes_eq name k) es) ≡ None → (lookup (λ (k : List ℕ). bytes_eq name k) es ≡ None → base_named (known_at es) name ≡ None)
        → (if b then e.1 else base_named (known_at es) name) ≡ None
    by true none later = absurd cc
    by false none later = later none

-- ---- what is added

pub added : (name : List ℕ) (base : Option (List ℕ)) (es : List Entry) → is_known (known_at es) name ≡ false → known_at (insert_entry (λ (x y : List ℕ). bytes_eq x y) es name base) ≡ known_at es ++ (record { name = name; base = base }) ∷ []
added name base [] unknown = refl
added name base (e ∷ es) unknown = by (bytes_eq name e.0) unknown (added name base es)
  where
    by : (b : Bool) → (b || is_known (known_at es) name) ≡ false → (is_known (known_at es) name ≡ false → known_at (insert_entry (λ (x y : List ℕ). bytes_eq x y) es name base) ≡ known_at es ++ (record { name = name; base = base }) ∷ [])
        → known_at (if b then (e.0, base) ∷ es else e ∷ insert_entry (λ (x y : List ℕ). bytes_eq x y) es name base) ≡ known_at (e ∷ es) ++ (record { name = name; base = base }) ∷ []
    by true unknown later = absurd cc
    by false unknown later = ap (λ (ks : List Known). (record { name = e.0; base = e.1 }) ∷ ks) (later unknown)

pub once_new : (known : List Known) (k : Known) → is_known known k.name ≡ false → once_behind known k ≡ known ++ k ∷ []
once_new known k unknown = ap (λ (b : Bool). if b then known else known ++ k ∷ []) unknown

pub once_old : (known : List Known) (k : Known) → is_known known k.name ≡ true → once_behind known k ≡ known
once_old known k there = ap (λ (b : Bool). if b then known else known ++ k ∷ []) there

-- ---- one list after the other

pub behind_both : (known ks ls : List Known) → all_behind known (ks ++ ls) ≡ all_behind (all_behind known ks) ls
behind_both known [] ls = refl
behind_both known (k ∷ ks) ls = behind_both (once_behind known k) ks ls

pub some_of : (o : Option (Bor (Option (List ℕ)))) → is_some o ≡ is_some (option_map (λ (r : Bor (Option (List ℕ))). r.now) o)
some_of (Some r) = refl
some_of None = refl

-- a type that isn't known is added after the others
pub newly_added : (known : List Known) (es : List Entry) (k : Known) → known_at es ≡ known → is_known known k.name ≡ false → known_at (insert_entry (λ (x y : List ℕ). bytes_eq x y) es k.name k.base) ≡ once_behind known k
newly_added known es k seen unknown =
    added k.name k.base es (ap (λ ks. is_known ks k.name) seen ∙ unknown)
    ∙ ap (λ (ks : List Known). ks ++ k ∷ []) seen
    ∙ sym (once_new known k unknown)

-- the next one of a list, before those after it
pub next_one : (ts : List NestedType) (n : ℕ) (t : NestedType) → n < length ts → t ≡ get_or ts n t → drop n ts ≡ t ∷ drop (n + 1) ts
next_one ts n t within is = rw add-one (drop-cons ts n t within ∙ ap (λ (u : NestedType). u ∷ drop (suc n) ts) (sym is))
