-- Parameters that may have changed, by their names.
use Rattle.std.proofs.Common.{◌≡◌, ◌∙◌, ℕ, Bool, true, false, ◌&&◌, ◌||◌, bytes_eq, List, [], ◌∷◌, ap, refl}
use Rattle.model_agreement.specs.declared.changes.ChangedParameter.{ChangedParameter}
use Rattle.model_agreement.specs.Changes.{is_changed, is_changed_somewhere}

neither : (a b : Bool) → (a || b) ≡ false → (a ≡ false) × (b ≡ false)
neither true b e = cc
neither false b e = (refl, e)

-- where none has that name, none is that parameter of any module
pub nowhere_changed : (cs : List ChangedParameter) (path name : List ℕ) → is_changed_somewhere cs name ≡ false → is_changed cs path name ≡ false
nowhere_changed [] path name e = refl
nowhere_changed (c ∷ cs) path name e =
    let h = neither (bytes_eq c.name name) (is_changed_somewhere cs name) e in
    ap (λ (b : Bool). (b && bytes_eq c.path path) || is_changed cs path name) h.0 ∙ nowhere_changed cs path name h.1
