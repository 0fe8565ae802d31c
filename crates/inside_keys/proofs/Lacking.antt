-- Gates of vectors that aren't there.
use Rattle.std.proofs.Common.{◌≡◌, ℕ, ◌+◌, ◌≤◌, Bool, true, false, List, [], ◌∷◌, ◌∙◌, ap, refl, arith, length, nat_lt, if◌then◌else◌}
use Rattle.std.proofs.lemmas.List.{get_or_past}
use Rattle.inside_parts.specs.declared.gates.TypeGate.{TypeGate}
use Rattle.inside_wiring.specs.declared.wiring.Role.{Role}
use Rattle.inside_wiring.specs.Wired.{Wired}
use Rattle.inside_keys.specs.Unconnected.{first_lacking, lacks_one, may_stay_free, needed, one_lacks}

-- a vector that isn't there has no gate
pub none_lacks : (w : Wired) (role : Role) (v : ℕ) → length w.sizes ≤ v → lacks_one w role v ≡ false
none_lacks w role v h =
    ap (λ n. nat_lt (first_lacking w role v) n) (get_or_past w.sizes v 0 h) ∙ (let none : nat_lt (first_lacking w role v) 0 ≡ false = grind arith in none)

by_free : (free lacks : Bool) → lacks ≡ false → (if free then false else lacks) ≡ false
by_free true lacks h = refl
by_free false lacks h = h

pub none_after : (w : Wired) (own : Bool) (loose : List (List ℕ)) (v : ℕ) (gs : List TypeGate) → length w.sizes ≤ v → one_lacks w own loose v gs ≡ false
none_after w own loose v [] h = refl
none_after w own loose v (g ∷ gs) h =
    ap (λ b. if b then true else one_lacks w own loose (v + 1) gs) (by_free (may_stay_free loose g) (lacks_one w (needed own g.kind.direction) v) (none_lacks w (needed own g.kind.direction) v h))
    ∙ none_after w own loose (v + 1) gs (omega (arith, h))
