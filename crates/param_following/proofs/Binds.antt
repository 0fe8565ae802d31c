-- One asking and then another.
use Rattle.std.proofs.Common.{◌≡◌, refl, ap, Result, Ok, Err, Option, Some, None}
use mathlib.Core.Path.{fun_ext}
use Rattle.param_following.specs.Asking.{Asking, Done, Ask, ◌>>=◌, with_value, outcome}
use Rattle.param_following.specs.Laws.{IsInTurn}

pub bind_assoc : {K V F R S T : Type 0} (t : Asking K V F R) (f : R → Asking K V F S) (g : S → Asking K V F T)
    → t >>= f >>= g ≡ t >>= (λ r. f r >>= g)
bind_assoc (Done (Ok r)) f g = refl
bind_assoc (Done (Err e)) f g = refl
bind_assoc (Ask k rest) f g = ap (Ask k) (fun_ext (λ v. bind_assoc (rest v) f g))

-- nothing is done with the result
pub bind_done : {K V F R : Type 0} (t : Asking K V F R) → t >>= (λ r. Done (Ok r)) ≡ t
bind_done (Done (Ok r)) = refl
bind_done (Done (Err e)) = refl
bind_done (Ask k rest) = ap (Ask k) (fun_ext (λ v. bind_done (rest v)))

-- what comes of the one decides what comes of both
module _ {K V F R S : Type 0} (answers : K → Option (Result V F)) (f : R → Asking K V F S) where
  pub outcome_bind : (t : Asking K V F R) → outcome answers (t >>= f) ≡ with_value (outcome answers t) (λ r. outcome answers (f r))
  outcome_bind (Done (Ok r)) = refl
  outcome_bind (Done (Err e)) = refl
  outcome_bind (Ask k rest) = by (answers k) (λ v. outcome_bind (rest v))
    where
      by : (a : Option (Result V F)) → ((v : V) → outcome answers (rest v >>= f) ≡ with_value (outcome answers (rest v)) (λ r. outcome answers (f r)))
          → with_value a (λ v. outcome answers (rest v >>= f)) ≡ with_value (with_value a (λ v. outcome answers (rest v))) (λ r. outcome answers (f r))
      by None later = refl
      by (Some (Err e)) later = refl
      by (Some (Ok v)) later = later v

pub in_turn : {K V F R S T : Type 0} → IsInTurn K V F R S T
in_turn = record { grouped = bind_assoc; comes = λ answers t f. outcome_bind answers f t }
