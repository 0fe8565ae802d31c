-- A parameter that stands at a place is one of its name.
use Rattle.std.proofs.Common.{◌≡◌, ℕ, zero, suc, Bool, true, false, cond, List, [], ◌∷◌, Some, is_some, slice_get, bytes_eq, refl, ap, ◌∙◌}
use Rattle.module_api.specs.declared.call.Parameter.{Parameter}
use Rattle.module_api.specs.Values.{value_of}

pub told_at : (name : List ℕ) (ps : List Parameter) (place : ℕ) (p : Parameter) → slice_get ps place ≡ Some p → bytes_eq p.name name ≡ true → is_some (value_of name ps) ≡ true
told_at name [] place p h e = cc
told_at name (q ∷ qs) zero p h e = let same : q ≡ p = cc in rw (ap (λ (x : Parameter). bytes_eq x.name name) same ∙ e) refl
told_at name (q ∷ qs) (suc place) p h e = by (bytes_eq q.name name) (told_at name qs place p h e)
  where
    by : (t : Bool) → is_some (value_of name qs) ≡ true → is_some (cond t (Some q.value) (value_of name qs)) ≡ true
    by true later = refl
    by false later = later
