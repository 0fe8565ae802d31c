-- Lists that grow: what stood in them stays.
use Rattle.std.proofs.Common.{◌≡◌, ℕ, zero, suc, ◌+◌, ◌<◌, List, [], ◌∷◌, ◌++◌, length, Some, None, sym, subst, arith}
use Rattle.std.specs.Prelude.{slice_get, slice_index, slice_set}
use Rattle.std.proofs.lemmas.List.{get_or_append_left, get_or-set_same}
use Rattle.inside_laws.specs.Sound.{Each}

pub none_is_none : {A : Type 0} {x : A} → None ≡ Some x → ⊥
none_is_none h = cc

pub each_map : {X : Type 0} (P Q : X → Type 0) (xs : List X) → ((x : X) → P x → Q x) → Each P xs → Each Q xs
each_map P Q [] f h = tt
each_map P Q (x ∷ xs) f h = (f x h.0, each_map P Q xs f h.1)

pub each_more : {X : Type 0} (P : X → Type 0) (xs : List X) (x : X) → Each P xs → P x → Each P (xs ++ x ∷ [])
each_more P [] x h p = (p, tt)
each_more P (y ∷ xs) x h p = (h.0, each_more P xs x h.1 p)

pub each_at : {X : Type 0} (P : X → Type 0) (xs : List X) (n : ℕ) (x : X) → Each P xs → slice_get xs n ≡ Some x → P x
each_at P [] n x h e = absurd (none_is_none e)
each_at P (y ∷ xs) zero x h e = subst P (let same : y ≡ x = cc in same) h.0
each_at P (y ∷ xs) (suc n) x h e = each_at P xs n x h.1 e

-- a place below a number that stands there is within the list
pub within_list : (ns : List ℕ) (v i : ℕ) → i < slice_index ns v → v < length ns
within_list [] v i h = absurd (omega (arith, h))
within_list (n ∷ ns) zero i h = omega arith
within_list (n ∷ ns) (suc v) i h = let below : v < length ns = within_list ns v i h in omega (arith, below)

-- a number that stands in a list stands in a longer one
pub below_more : (ns ms : List ℕ) (v i : ℕ) → i < slice_index ns v → i < slice_index (ns ++ ms) v
below_more ns ms v i h = subst (λ n. i < n) (sym (get_or_append_left ns ms 0 v (within_list ns v i h))) h

-- with one number raised, all that was below is
pub raised_by : (ns : List ℕ) (u v i : ℕ) → i < slice_index ns v → i < slice_index (slice_set ns u (slice_index ns u + 1)) v
raised_by [] u v i h = h
raised_by (n ∷ ns) zero zero i h = omega (arith, h)
raised_by (n ∷ ns) zero (suc v) i h = h
raised_by (n ∷ ns) (suc u) zero i h = h
raised_by (n ∷ ns) (suc u) (suc v) i h = raised_by ns u v i h

pub raised_there : (ns : List ℕ) (v : ℕ) → v < length ns → slice_index ns v < slice_index (slice_set ns v (slice_index ns v + 1)) v
raised_there ns v h = subst (λ n. slice_index ns v < n) (sym (get_or-set_same ns v (slice_index ns v + 1) 0 h)) (omega arith)
